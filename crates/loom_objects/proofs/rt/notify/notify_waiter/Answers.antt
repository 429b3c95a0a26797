use Rattle.std.proofs.Common.{ap, rules}
use Rattle.std.specs.declared.sync.atomic.Ordering.TheVariants.{Release}
use Rattle.loom_views.specs.Views.{points_after_release}
use Rattle.loom_objects.specs.Rules.Moves.{joined_points}
use Rattle.loom_objects.specs.Rules.Notify.{notify}
use Rattle.loom_objects.specs.Scene.Stage.{Stage}
use Rattle.loom_objects.proofs.Scene.Showing.{gives}
use Rattle.loom_objects.proofs.rt.notify.notify_waiter.Goals as goal

pub returns : goal.returns
returns g c =
    gives (notify c.args.number) c.args.scene.now c.wake_pending.new.self _ c.join_waiters_view.new.self.views
    (λ p. joined_points c.in_ok-notify.notify.now.waiter c.release.new.self.active (points_after_release p c.args.scene.now.active c.args.number Release))
    (ap (λ (s : Stage g.row.D.Denot). s.views) c.wake_pending.ensures) (λ p shown. c.join_waiters_view.ensures.views _ (c.release.ensures.views p shown)) (λ p left. search rules)
