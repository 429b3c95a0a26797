use Rattle.std.proofs.Common.{ap, refl, sym}
use Rattle.loom_views.specs.Views.{points_after_acquire}
use Rattle.loom_objects.specs.Rules.Arc.{tries_unwrap}
use Rattle.loom_objects.specs.Scene.Stage.{Stage}
use Rattle.loom_objects.proofs.Scene.Showing.{gives}
use Rattle.loom_objects.proofs.rt.arc.try_unwrap.Goals as goal

pub returns : goal.returns
returns g c =
    gives (tries_unwrap c.args.number) c.args.scene.now c.pend_unwrap.new.scene _ c.acquire.new.self.views (λ p. points_after_acquire p c.args.scene.now.active c.args.number) (ap (λ (s : Stage g.row.D.Denot). s.views) c.pend_unwrap.ensures.pends) c.acquire.ensures.views
    (λ p left. rw (sym c.in_ok-arc.ensures, sym c.if-not-is_free.ensures, c.if-not-is_sole.false, c.pend_unwrap.ensures.branch, c.pend_unwrap.ensures.pends, c.acquire.ensures.rest) refl)
