use Rattle.std.proofs.Common.{ap, rules}
use Rattle.std.specs.declared.sync.atomic.Ordering.TheVariants.{Release}
use Rattle.loom_views.specs.Views.{points_after_release}
use Rattle.loom_objects.specs.Rules.Mutex.{frees}
use Rattle.loom_objects.specs.Scene.Stage.{Stage}
use Rattle.loom_objects.proofs.Scene.Showing.{gives}
use Rattle.loom_objects.proofs.rt.mutex.set_free.Goals as goal

pub returns : goal.returns
returns g c =
    gives (frees c.args.number c.args.value) _ _ _ c.release.new.self.views (λ p. points_after_release p c.args.scene.now.active c.args.number Release) (ap (λ (s : Stage g.row.D.Denot). s.views) c.wake_pending.ensures) c.release.ensures.views (λ p left. search rules)
