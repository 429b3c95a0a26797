use Rattle.loom_objects.specs.declared.rt.thread.State.TheVariants.{Blocked}
use Rattle.loom_objects.specs.Rules.Moves.{receiving_with}
use Rattle.loom_objects.proofs.Scene.Lists.{map-step}
use Rattle.loom_objects.proofs.rt.scene.pending.block_receiving.Goals as goal

pub loop-i-preserved : goal.loop-i-preserved
loop-i-preserved g c =
    rw c.block_receiver.ensures
    (map-step (receiving_with c.args.number Blocked) c.args.threads.now c.loop-i.threads c.loop-i.i c.len-i-end.result c.at_mut.result.now c.loop-i.invariant c.loop-i-test.true c.at_mut.ensures.value)
