use Rattle.std.proofs.Common.{refl, sym}
use Rattle.loom_objects.specs.Rules.Arc.{decrements, unwraps}
use Rattle.loom_objects.proofs.Scene.Showing.{does_as}
use Rattle.loom_objects.proofs.rt.arc.unwrap.Goals as goal

pub returns : goal.returns
returns g c =
    does_as (unwraps c.args.number) (decrements c.args.number) c.args.scene.now c.decrement.new.scene c.decrement.result (λ p left. rw (sym c.in_ok-arc.ensures, c.if-arc-ne1.false) refl) c.decrement.ensures
