use Rattle.std.proofs.Common.{◌≡◌, ◌∙◌, true, sym, refl, None}
use Rattle.std.specs.Prelude.{slice_get}
use Rattle.std.specs.List.{find}
use Rattle.loom_objects.specs.Rules.Locals.{is_of, main_works}
use Rattle.loom_objects.proofs.rt.locals.lazy_init.Goals as goal

pub returns-in_ok-made-in-None : goal.returns-in_ok-made-in-None
returns-in_ok-made-in-None g c = λ p left shown.
    let made = c.in_ok-made-in-None.ensures p left shown in
    let works : main_works (slice_get c.args.scene.now.threads 0) ≡ true = cc in
    let none : find (is_of c.args.key) c.args.scene.now.lazies ≡ None = sym c.lazy.ensures ∙ rw c.in-None.is refl in
    rw (works, none) made
