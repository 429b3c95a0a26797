use Rattle.std.proofs.Common.{rules}
use Rattle.std.specs.Prelude.{Some}
use Rattle.loom_objects.specs.declared.rt.thread.Task.TheVariants as task
use Rattle.loom_objects.specs.Rules.Waker.{register_by_ref_begins, waker_pends}
use Rattle.loom_objects.proofs.Scene.Showing.{does_as}
use Rattle.loom_objects.proofs.rt.atomic_waker.register_by_ref_begins.Goals as goal

pub returns : goal.returns
returns g c = does_as (register_by_ref_begins c.args.number c.args.wakers) (waker_pends (task.CloneWaker c.args.wakers (Some c.args.number)) c.args.wakers) c.args.scene.now c.waker_pends.new.scene c.waker_pends.result (λ p left. search rules) c.waker_pends.ensures
