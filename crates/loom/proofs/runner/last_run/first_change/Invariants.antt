use Rattle.std.proofs.Common.{ℕ, ◌<◌}
use Rattle.loom.specs.declared.runner.history.event.Event.{Event}
use Rattle.loom.specs.Runner.Alike.{AreMet, IsSame, trace}
use Rattle.loom.proofs.runner.last_run.first_change.Given as goal

-- the events so far are alike
abbrev pub invariant-loop-n : goal.invariant-loop-n
invariant-loop-n g l = (k : ℕ) → k < l.n → (d e : Event _) → AreMet (trace l.old_choices l.old) (trace l.choices l.events) k d e → IsSame d e
