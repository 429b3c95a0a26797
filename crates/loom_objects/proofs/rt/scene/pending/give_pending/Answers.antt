use Rattle.loom_objects.specs.Rules.Moves.{pending_with}
use Rattle.loom_objects.proofs.Scene.Lists.{map-step}
use Rattle.loom_objects.proofs.rt.scene.pending.give_pending.Goals as goal

pub loop-i-preserved : goal.loop-i-preserved
loop-i-preserved g c =
    rw c.give_state.ensures
    (map-step (pending_with c.args.number c.args.state) c.args.threads.now c.loop-i.threads c.loop-i.i c.len-i-end.result c.at_mut.result.now c.loop-i.invariant c.loop-i-test.true c.at_mut.ensures.value)
