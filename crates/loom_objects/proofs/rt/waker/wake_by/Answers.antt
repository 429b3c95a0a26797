use Rattle.std.proofs.Common.{rules}
use Rattle.std.specs.Prelude.{Ok}
use Rattle.loom_objects.specs.Rules.Notify.{notify}
use Rattle.loom_objects.specs.Rules.Rule.{◌>>=◌}
use Rattle.loom_objects.specs.Rules.Waker.{after_wake, wakes_by}
use Rattle.loom_objects.proofs.Scene.Showing.{does_as, follows}
use Rattle.loom_objects.proofs.Stages.Going.{fails_first}
use Rattle.loom_objects.proofs.rt.waker.wake_by.Goals as goal

pub returns-in_err-notify_waiter : goal.returns-in_err-notify_waiter
returns-in_err-notify_waiter g c =
    does_as (wakes_by c.args.notifier c.args.number c.args.after) (λ w. notify c.args.notifier w >>= (λ x. after_wake c.args.after c.args.number x.1)) c.args.scene.now _ _ (λ p left. search rules)
    (fails_first (notify c.args.notifier) (λ x. after_wake c.args.after c.args.number x.1) c.args.scene.now c.notify_waiter.new.scene _ c.in_err-notify_waiter.field-0.0 _ (search rules) c.in_err-notify_waiter.ensures)

pub returns : goal.returns
returns g c =
    does_as (wakes_by c.args.notifier c.args.number c.args.after) (λ w. notify c.args.notifier w >>= (λ x. after_wake c.args.after c.args.number x.1)) c.args.scene.now c.after_wake.new.scene (Ok c.after_wake.result) (λ p left. search rules)
    (follows (notify c.args.notifier) (λ x. after_wake c.args.after c.args.number x.1) c.args.scene.now c.notify_waiter.new.scene c.after_wake.new.scene tt (Ok c.after_wake.result) c.in_ok-notify_waiter.ensures c.after_wake.ensures)
