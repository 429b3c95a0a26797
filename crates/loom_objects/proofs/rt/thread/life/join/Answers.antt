use Rattle.std.proofs.Common.{refl, rules, Ok}
use Rattle.loom_views.specs.Views.{points_after_acquire}
use Rattle.loom_objects.specs.declared.operation.Reply.TheVariants as reply
use Rattle.loom_objects.specs.Rules.Moves.{takes_result}
use Rattle.loom_objects.proofs.Scene.Showing.{follows, gives}
use Rattle.loom_objects.proofs.Stages.Going.{fails_first}
use Rattle.loom_objects.proofs.Threads.Following.{has_taken, joins}
use Rattle.loom_objects.proofs.rt.thread.life.join.Goals as goal

pub returns-in_err-value : goal.returns-in_err-value
returns-in_err-value g c =
    joins c.args.thread c.args.notifier c.in_ok-notify.notify.now c.args.scene.now (search rules) (search rules) _ _
    (fails_first (takes_result c.args.thread) (has_taken c.args.notifier) _ c.take_result.new.self _ c.in_err-value.field-0.0 _ (search rules) c.in_err-value.ensures)

pub returns : goal.returns
returns g c =
    joins c.args.thread c.args.notifier c.in_ok-notify.notify.now c.args.scene.now (search rules) (search rules) c.acquire.new.self (Ok (reply.Data c.in_ok-value.value))
    (follows (takes_result c.args.thread) (has_taken c.args.notifier) _ c.take_result.new.self c.acquire.new.self c.in_ok-value.value (Ok (reply.Data c.in_ok-value.value)) c.in_ok-value.ensures
    (gives (λ w. has_taken c.args.notifier (c.in_ok-value.value, w)) c.take_result.new.self c.acquire.new.self (reply.Data c.in_ok-value.value) c.acquire.new.self.views (λ p. points_after_acquire p c.take_result.new.self.active c.args.notifier) refl c.acquire.ensures.views (λ p left. search rules)))
