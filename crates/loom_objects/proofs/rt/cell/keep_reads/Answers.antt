use Rattle.std.proofs.Common.{◌≡◌, refl}
use Rattle.loom_objects.proofs.rt.cell.keep_reads.Goals as goal

pub returns-in_err-cell_mut : goal.returns-in_err-cell_mut
returns-in_err-cell_mut g c = λ cell at. let none = c.in_err-cell_mut.ensures.value in absurd (cc)

pub returns : goal.returns
returns g c = λ cell at.
    let same : c.in_ok-cell_mut.field-0.now ≡ cell = let found = c.in_ok-cell_mut.ensures.value in cc in
    (refl, rw (c.set_reads.ensures, same) refl)
