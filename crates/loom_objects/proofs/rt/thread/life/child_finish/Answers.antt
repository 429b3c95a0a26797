use Rattle.std.proofs.Common.{ap, rules, Ok}
use Rattle.loom_objects.specs.declared.operation.Reply.{Reply}
use Rattle.loom_objects.specs.declared.operation.Reply.TheVariants as reply
use Rattle.loom_objects.specs.Rules.Moves.{changes_active, having}
use Rattle.loom_objects.specs.Rules.Notify.{notify}
use Rattle.loom_objects.specs.Scene.Stage.{Stage}
use Rattle.loom_objects.proofs.Scene.Showing.{follows, keeps}
use Rattle.loom_objects.proofs.Stages.Going.{fails_first}
use Rattle.loom_objects.proofs.rt.thread.life.child_finish.Goals as goal

pub returns-in_err-notify_waiter : goal.returns-in_err-notify_waiter
returns-in_err-notify_waiter g c =
    fails_first (notify c.args.notifier) (λ after. Ok (reply.Done, changes_active (having c.args.value) after.1)) c.args.scene.now c.notify_waiter.new.scene c.notify_waiter.new.scene c.in_err-notify_waiter.field-0.0 _ (search rules) c.in_err-notify_waiter.ensures

pub returns : goal.returns
returns g c =
    follows (notify c.args.notifier) (λ after. Ok (reply.Done, changes_active (having c.args.value) after.1)) c.args.scene.now c.notify_waiter.new.scene c.set_result.new.self tt (Ok reply.Done) c.in_ok-notify_waiter.ensures
    (keeps {A = Reply g.row.D.Denot} (λ w. Ok (reply.Done, changes_active (having c.args.value) w)) c.notify_waiter.new.scene c.set_result.new.self reply.Done (ap (λ (s : Stage g.row.D.Denot). s.views) c.set_result.ensures) (λ p left. search rules))
