use Rattle.std.proofs.Common.{◌≡◌, length, refl}
use Rattle.loom_objects.proofs.rt.cell.cell_new.Goals as goal

pub returns : goal.returns
returns g c = λ p left shown.
    let number : c.in_ok-number.number ≡ length c.args.scene.now.objects = cc (c.in_ok-number.ensures.number) in
    (rw (number, c.in_ok-number.ensures.rest, c.new.ensures) refl, c.in_ok-number.ensures.views p shown)
