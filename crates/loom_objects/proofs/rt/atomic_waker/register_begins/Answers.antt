use Rattle.std.proofs.Common.{rules}
use Rattle.loom_objects.specs.declared.rt.thread.Task.TheVariants as task
use Rattle.loom_objects.specs.Rules.Waker.{register_begins, waker_pends}
use Rattle.loom_objects.proofs.Scene.Showing.{does_as}
use Rattle.loom_objects.proofs.rt.atomic_waker.register_begins.Goals as goal

pub returns : goal.returns
returns g c = does_as (register_begins c.args.number c.args.wakers) (waker_pends (task.Register c.args.number c.args.wakers) c.args.wakers) c.args.scene.now c.waker_pends.new.scene c.waker_pends.result (λ p left. search rules) c.waker_pends.ensures
