-- A path that belongs to another tree.
use Rattle.std.proofs.Common.{◌≢◌, List, [], ◌∷◌, ◌++◌, refl, sym, ◌∙◌}
use Rattle.loom_objects.specs.declared.choice.Choice.{Choice}
use Rattle.loom_engine.specs.Walk.Machine.{Machine, run}
use Rattle.loom_engine.specs.Walk.Sound.{IsMachine}
use Rattle.loom_engine.specs.Walk.Path.{Stored, choices, Rest, by_path, by_pending, by_alternative}
use Rattle.loom_engine.proofs.Walk.Defaults.{goes_on, run_reached}
use Rattle.loom_engine.specs.Trees.Meeting.{machine_of}
use Rattle.loom_engine.specs.Trees.Example.{no_marking}
use Rattle.loom_engine.specs.Trees.Foreign.{failing, ForeignLaw}
use Rattle.loom_engine.proofs.Trees.Machines.{machine_law}

not_none : (before : List Choice) (o : Choice) (rest : List Choice) → (before ++ o ∷ []) ++ rest ≢ []
not_none [] o rest = λ e. cc e
not_none (x ∷ before) o rest = λ e. cc e

some_choices : (n : Stored) (p : List Stored) (rest : List Choice) → choices (n ∷ p) ++ rest ≢ []
some_choices n p rest = λ e. cc e

run_on : (m : Machine) → IsMachine m → (before : List Choice) (o : Choice) → run m (before ++ o ∷ []) ≢ []
run_on m w before o = λ e.
    let z = goes_on m (before ++ o ∷ []) (run m (before ++ o ∷ [])) (run_reached m w (before ++ o ∷ [])) in
    not_none before o z.0 (sym z.1 ∙ e)

left_over : (m : Machine) → IsMachine m → (n : Stored) (p : List Stored) (x : List Choice) → Rest m (n ∷ p) x → x ≢ []
left_over m w n p x by_path = λ e.
    let z = goes_on m (choices (n ∷ p)) (run m (choices (n ∷ p))) (run_reached m w (choices (n ∷ p))) in
    some_choices n p z.0 (sym z.1 ∙ e)
left_over m w n p x (by_pending before k o h e f) = run_on m w before o
left_over m w n p x (by_alternative r before o d a f) = run_on m w before o

pub foreign_law : ForeignLaw
foreign_law s n = (refl, λ h. left_over (machine_of s no_marking failing) (machine_law s no_marking failing tt (λ passes question k o e. absurd (cc e))) n [] [] h refl)
