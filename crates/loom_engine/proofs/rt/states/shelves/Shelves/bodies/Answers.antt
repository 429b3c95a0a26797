use Rattle.std.proofs.Common.{◌<◌, arith, length}
use Rattle.std.proofs.lemmas.List.{take_more}
use Rattle.loom_engine.proofs.rt.states.shelves.Shelves.bodies.Goals as goal

pub loop-body-preserved : goal.loop-body-preserved
loop-body-preserved g c =
    let below : c.loop-body.body-index < length c.args.bodies.now = omega (arith, c.loop-body-test.true) in
    let next = take_more c.args.bodies.now c.loop-body.body-index c.body-item.result below in
    cc (c.in_ok-push.ensures.items, c.loop-body.invariant, c.in_ok-shared_body.ensures, c.body-item.is, next)
