use Rattle.loom_objects.proofs.Machine.Replying.{chosen_copy}
use Rattle.loom_objects.proofs.rt.machine.effects.go_on.Goals as goal

pub returns-in-Ok-clause-growth : goal.returns-in-Ok-clause-growth
returns-in-Ok-clause-growth g c =
    chosen_copy c.args.thread c.in-Ok.task c.args.scene.now c.choose.new.self c.take_effect.result c.in-Ok.ensures.does c.take_effect.ensures.growth
