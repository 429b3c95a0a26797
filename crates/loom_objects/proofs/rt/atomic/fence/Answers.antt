use Rattle.std.proofs.Common.{refl, sym}
use Rattle.loom_views.specs.Views.{points_after_raise}
use Rattle.loom_objects.specs.Rules.Atomic.{fence}
use Rattle.loom_objects.proofs.Scene.Showing.{leads_by, refuses_by}
use Rattle.loom_objects.proofs.rt.atomic.fence.Goals as goal

pub returns-then-is_relaxed : goal.returns-then-is_relaxed
returns-then-is_relaxed g c =
    let old = c.args.scene.now in
    let raised = leads_by (λ p. points_after_raise p old.active) old.views c.raise.new.self.views c.in_ok-raise.ensures.shown in
    refuses_by (fence c.args.order) old c.raise.new.self c.raise.new.self.views _ raised _ (λ p q left way. rw (way, sym c.if-is_relaxed.ensures) refl)
