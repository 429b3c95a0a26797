use Rattle.std.proofs.Common.{refl, rules, Ok}
use Rattle.loom_objects.specs.declared.operation.Reply.{Reply}
use Rattle.loom_objects.specs.declared.operation.Reply.TheVariants as reply
use Rattle.loom_objects.specs.Rules.Notify.{notify}
use Rattle.loom_objects.proofs.Scene.Showing.{follows, keeps}
use Rattle.loom_objects.proofs.Stages.Going.{fails_first}
use Rattle.loom_objects.proofs.rt.notify.notify_one.Goals as goal

pub returns-in_err-notify_waiter : goal.returns-in_err-notify_waiter
returns-in_err-notify_waiter g c =
    fails_first (notify c.args.number) (λ after. Ok (reply.Done, after.1)) c.args.scene.now c.notify_waiter.new.scene c.notify_waiter.new.scene c.in_err-notify_waiter.field-0.0 _ (search rules) c.in_err-notify_waiter.ensures

pub returns : goal.returns
returns g c =
    let scene = c.notify_waiter.new.scene in
    follows (notify c.args.number) (λ after. Ok (reply.Done, after.1)) c.args.scene.now scene scene tt (Ok reply.Done) c.in_ok-notify_waiter.ensures
    (keeps {A = Reply g.row.D.Denot} (λ w. Ok (reply.Done, w)) scene scene reply.Done refl (λ p left. refl))
