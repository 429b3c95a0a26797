use Rattle.loom_objects.specs.Schedule.Offers.{runs_again}
use Rattle.loom_objects.proofs.Scene.Lists.{map-step}
use Rattle.loom_objects.proofs.rt.scene.run_all_again.Goals as goal

pub loop-i-preserved : goal.loop-i-preserved
loop-i-preserved g c =
    rw c.run_again.ensures (map-step runs_again c.args.threads.now c.loop-i.threads c.loop-i.i c.len-i-end.result c.at_mut.result.now c.loop-i.invariant c.loop-i-test.true c.at_mut.ensures.value)
