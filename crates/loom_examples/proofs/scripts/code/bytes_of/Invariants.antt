use Rattle.std.proofs.Common.{ℕ, List, length, map, ◌++◌}
use Rattle.loom_examples.specs.Scripts.Code.{Tell}
use Rattle.loom_examples.specs.Scripts.Written.{written}
use Rattle.loom_examples.proofs.scripts.code.bytes_of.Given as goal

-- with what tells the rest behind them they tell all
abbrev pub invariant-loop-step : goal.invariant-loop-step
invariant-loop-step l = (left : List ℕ) → Tell left (map written l.rest) → Tell (l.bytes.items ++ left) (map written l.fn.steps)

abbrev pub decreases-loop-step : goal.decreases-loop-step
decreases-loop-step l = length l.rest
