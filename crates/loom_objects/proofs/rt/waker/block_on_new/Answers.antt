use Rattle.std.proofs.Common.{◌≡◌, ◌∙◌, ◌+◌, ap, length, length-append, refl, rules}
use Rattle.loom_views.specs.Views.{points_with_point}
use Rattle.loom_objects.specs.Scene.Stage.{Stage}
use Rattle.loom_objects.specs.Rules.Waker.{block_on_new}
use Rattle.loom_objects.proofs.Scene.Showing.{gives}
use Rattle.loom_objects.proofs.rt.waker.block_on_new.Goals as goal

pub returns : goal.returns
returns g c =
    let more : length c.add.new.self.objects ≡ length c.args.scene.now.objects + 1 = ap (λ (s : Stage g.row.D.Denot). length s.objects) c.in_ok-notifier.ensures.rest ∙ length-append c.args.scene.now.objects _ in
    gives block_on_new c.args.scene.now c.add-2.new.self _ c.add-2.new.self.views (λ p. points_with_point (points_with_point p)) refl (λ p shown. c.in_ok-add.ensures.views _ (c.in_ok-notifier.ensures.views p shown)) (λ p left. search rules)
