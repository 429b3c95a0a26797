use Rattle.std.proofs.Common.{refl, rules}
use Rattle.loom_views.specs.Views.{points_after_acquire}
use Rattle.loom_objects.specs.Rules.Notify.{awaits}
use Rattle.loom_objects.proofs.Scene.Showing.{gives}
use Rattle.loom_objects.proofs.rt.notify.await_notified.Goals as goal

pub returns : goal.returns
returns g c =
    gives (awaits c.args.number) c.args.scene.now c.acquire.new.self _ c.acquire.new.self.views (λ p. points_after_acquire p c.args.scene.now.active c.args.number) refl c.acquire.ensures.views (λ p left. search rules)
