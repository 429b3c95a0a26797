use Rattle.std.proofs.Common.{refl, sym}
use Rattle.loom_views.specs.Views.{points_after_acquire}
use Rattle.loom_objects.specs.Rules.Arc.{tells_count}
use Rattle.loom_objects.proofs.Scene.Showing.{gives}
use Rattle.loom_objects.proofs.rt.arc.tell_count.Goals as goal

pub returns : goal.returns
returns g c =
    gives (tells_count c.args.number) c.args.scene.now c.acquire.new.self _ c.acquire.new.self.views (λ p. points_after_acquire p c.args.scene.now.active c.args.number) refl c.acquire.ensures.views
    (λ p left. rw (sym c.in_ok-arc.ensures, sym c.if-not-is_free.ensures, c.acquire.ensures.rest) refl)
