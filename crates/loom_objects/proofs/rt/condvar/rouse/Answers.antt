use Rattle.std.proofs.Common.{refl, rules}
use Rattle.loom_views.specs.Views.{points_after_join}
use Rattle.loom_objects.specs.Rules.Condvar.{rouse}
use Rattle.loom_objects.proofs.Scene.Showing.{gives}
use Rattle.loom_objects.proofs.rt.condvar.rouse.Goals as goal

pub returns : goal.returns
returns g c =
    gives (rouse c.args.thread) c.args.scene.now c.join_view.new.self tt c.join_view.new.self.views (λ p. points_after_join p c.args.thread c.args.scene.now.active) refl (λ p shown. search rules) (λ p left. search rules)
