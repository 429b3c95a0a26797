use Rattle.std.proofs.Common.{◌≡◌, ◌++◌, length, map, take, drop}
use Rattle.loom_objects.specs.declared.rt.thread.State.TheVariants.{Blocked}
use Rattle.loom_objects.specs.Rules.Moves.{receiving_with}
use Rattle.loom_objects.proofs.rt.scene.pending.block_receiving.Given as goal

abbrev pub invariant-loop-i : goal.invariant-loop-i
invariant-loop-i g l =
    (l.threads ≡ map (receiving_with l.number Blocked) (take l.i l.fn.threads) ++ drop l.i l.fn.threads)
    × (length l.threads ≡ l.i-end) × (length l.fn.threads ≡ l.i-end)
