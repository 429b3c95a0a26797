-- What is found in the bodies is found in the table that they are.
use Rattle.std.proofs.Common.{ℕ, ◌≡◌, List, [], ◌∷◌, Bool, true, false, map, refl, ap, sym, ◌∙◌, ◌⊎◌, ⊎_elim, inl, inr, cond}
use Rattle.std.specs.Option.{option_map}
use Rattle.std.specs.Prelude.{Option, Some, Result, Ok, Err, IfOk}
use Rattle.std.specs.Str.{bytes_eq}
use Rattle.loom_examples.specs.declared.measured.Measured.{Measured}
use Rattle.loom_examples.specs.Measured.Body.{Named, named}
use Rattle.loom_examples.specs.Measured.Table.{all, body_of}
use Rattle.loom_rows.specs.Measures.{named_by, PrintedBody, PrintedNamed}

-- what is chosen of two
chosen : (b : Bool) (first : Measured) (other : Option Named) (later : Option Measured) → other ≡ option_map named later
    → cond {A = Option Named} b (Some (named first)) other ≡ option_map named (cond {A = Option Measured} b (Some first) later)
chosen true first other later e = refl
chosen false first other later e = e

-- the first body that has a name
found : (bodies : List Measured) (name : List ℕ) → named_by (map named bodies) name ≡ option_map named (body_of bodies name)
found [] name = refl
found (first ∷ bodies) name = chosen (bytes_eq first.name.now name) first (named_by (map named bodies) name) (body_of bodies name) (found bodies name)

-- what was printed of a body was printed by the table
printed_by : (bodies : List Measured) (name : List ℕ) (old new : Option (List ℕ)) (status : ℕ)
    → map named bodies ≡ all → PrintedBody bodies name old new status → PrintedNamed name old new status
printed_by bodies name old new status t (body, report, m, r, p) =
    (named body, report, ap (λ rows. named_by rows name) (sym t) ∙ found bodies name ∙ ap (option_map named) m, r, p)

-- what was printed of a body was printed by the table, where the status may be 2
pub printed_or_not : {E : Type 0} (bodies items : List Measured) (name : List ℕ) (old new : Option (List ℕ)) (answer : Result ℕ E) → bodies ≡ items → map named items ≡ all
    → IfOk answer (λ status. (status ≡ 2) ⊎ PrintedBody bodies name old new status) → IfOk answer (λ status. (status ≡ 2) ⊎ PrintedNamed name old new status)
printed_or_not bodies items name old new (Ok status) e t p = ⊎_elim inl (λ q. inr (printed_by bodies name old new status (ap (map named) e ∙ t) q)) p
printed_or_not bodies items name old new (Err r) e t p = p
