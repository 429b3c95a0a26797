use Rattle.std.proofs.Common.{ap, ◌∙◌, rules}
use Rattle.std.specs.declared.sync.atomic.Ordering.TheVariants.{Release}
use Rattle.loom_views.specs.Views.{points_after_release}
use Rattle.loom_objects.specs.Rules.RwLock.{read_release}
use Rattle.loom_objects.specs.Scene.Stage.{Stage}
use Rattle.loom_objects.proofs.Scene.Showing.{gives}
use Rattle.loom_objects.proofs.rt.rwlock.read_release.Goals.{then-is_unread, else-is_unread}
use Rattle.loom_objects.proofs.rt.rwlock.read_release.Goals as goal

pub returns : goal.returns
returns g c = elim c.if-is_unread.branch [
  | then-is_unread w ↦
      gives (read_release c.args.number) _ _ _ c.release.new.self.views (λ p. points_after_release p c.args.scene.now.active c.args.number Release) (ap (λ (s : Stage g.row.D.Denot). s.views) (w.scene-is ∙ w.wake_pending.ensures)) c.release.ensures.views (λ p left. search rules)
  | else-is_unread w ↦
      gives (read_release c.args.number) _ _ _ c.release.new.self.views (λ p. points_after_release p c.args.scene.now.active c.args.number Release) (ap (λ (s : Stage g.row.D.Denot). s.views) w.scene-is) c.release.ensures.views (λ p left. search rules)
]

pub returns-in_err-is_unread : goal.returns-in_err-is_unread
returns-in_err-is_unread g c = search rules
