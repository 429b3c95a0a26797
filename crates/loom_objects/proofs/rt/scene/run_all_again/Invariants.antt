use Rattle.std.proofs.Common.{◌≡◌, ◌++◌, length, map, take, drop}
use Rattle.loom_objects.specs.Schedule.Offers.{runs_again}
use Rattle.loom_objects.proofs.rt.scene.run_all_again.Given as goal

abbrev pub invariant-loop-i : goal.invariant-loop-i
invariant-loop-i g l = (l.threads ≡ map runs_again (take l.i l.fn.threads) ++ drop l.i l.fn.threads) × (length l.threads ≡ l.i-end) × (length l.fn.threads ≡ l.i-end)
