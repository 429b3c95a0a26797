use Rattle.std.proofs.Common.{◌≡◌, ◌++◌, length, map, take, drop}
use Rattle.loom_objects.specs.Rules.Moves.{pending_with}
use Rattle.loom_objects.proofs.rt.scene.pending.give_pending.Given as goal

abbrev pub invariant-loop-i : goal.invariant-loop-i
invariant-loop-i g l =
    (l.threads ≡ map (pending_with l.number l.state) (take l.i l.fn.threads) ++ drop l.i l.fn.threads)
    × (length l.threads ≡ l.i-end) × (length l.fn.threads ≡ l.i-end)
