use Rattle.std.proofs.Common.{refl, rules}
use Rattle.std.specs.declared.sync.atomic.Ordering.TheVariants.{Release}
use Rattle.loom_views.specs.Views.{points_after_release}
use Rattle.loom_objects.specs.Rules.Arc.{decrements}
use Rattle.loom_objects.proofs.Scene.Showing.{gives}
use Rattle.loom_objects.proofs.rt.arc.decrement.Goals as goal

pub returns-in-None : goal.returns-in-None
returns-in-None g c =
    gives (decrements c.args.number) _ _ _ c.release.new.self.views (λ p. points_after_release p c.args.scene.now.active c.args.number Release) refl c.release.ensures.views (λ p left. search rules)
