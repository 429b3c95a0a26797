-- An access of a cell races just where an access recorded before it is out of view.
use Rattle.std.proofs.Common.{◌≡◌, ℕ, Bool, true, false, not, ◌||◌, List, refl, sym, ap, ⊎_elim, inl, inr, Ok, Err}
use Rattle.std.specs.Prelude.{◌↔◌, ◌⊎◌, if◌then◌else◌}
use Rattle.std.proofs.lemmas.Bool.{or_cases, or_left, or_right, false≢true}
use Rattle.std.proofs.lemmas.List.Folds.{Any-from_list_any, list_any-from_Any}
use Rattle.loom_views.specs.declared.rt.failure.FailureKind.TheVariants.{Race}
use Rattle.loom_views.specs.Graph.{Graph, inside}
use Rattle.loom_views.specs.AccessRecords.{races}
use Rattle.loom_views.specs.CellAccesses.{Accesses}
use Rattle.loom_views.specs.Views.{Points, recorded}
use Rattle.loom_views.specs.Laws.Views.{HasOutside, RacingLaw}

pub not-is : (a b : Bool) → not a ≡ not b → a ≡ b
not-is true true e = refl
not-is true false e = sym e
not-is false true e = sym e
not-is false false e = refl

pub races-outside : (g : Graph) (points : List ℕ) (a : ℕ) → races g points a ≡ true → HasOutside g points a
unfolding races
races-outside g points a e =
    let found = Any-from_list_any (λ k. not (inside g k a)) points e in
    (found.0, found.1, found.2, found.3, not-is (inside g found.1 a) false found.4)

pub outside-races : (g : Graph) (points : List ℕ) (a : ℕ) → HasOutside g points a → races g points a ≡ true
unfolding races
outside-races g points a h = list_any-from_Any (λ k. not (inside g k a)) points (h.0, h.1, h.2, h.3, ap not h.4)

-- what a test decides is when the access fails
tested : (p : Points) (n : ℕ) (X : Type 0) (b : Bool) (after : Accesses) → (b ≡ true → X) → (X → b ≡ true) → (recorded p n (if b then Err Race else Ok after) ≡ Err Race) ↔ X
tested p n X true after f h = (λ e. f refl, λ x. refl)
tested p n X false after f h = (λ e. absurd (cc), λ x. absurd (false≢true (h x)))

pub racing_law : RacingLaw
racing_law p t n own cell e f = record {
  read = rw (e, f) (tested p n _ (races p.graph cell.writes own.present) _ (races-outside p.graph cell.writes own.present) (outside-races p.graph cell.writes own.present));
  write = rw (e, f) (tested p n _ (races p.graph cell.writes own.present || races p.graph cell.reads own.present) _ found missed);
}
  where
    found : (races p.graph cell.writes own.present || races p.graph cell.reads own.present) ≡ true → HasOutside p.graph cell.writes own.present ⊎ HasOutside p.graph cell.reads own.present
    found h = ⊎_elim (λ q. inl (races-outside p.graph cell.writes own.present q)) (λ q. inr (races-outside p.graph cell.reads own.present q)) (or_cases (races p.graph cell.writes own.present) (races p.graph cell.reads own.present) h)

    missed : HasOutside p.graph cell.writes own.present ⊎ HasOutside p.graph cell.reads own.present → (races p.graph cell.writes own.present || races p.graph cell.reads own.present) ≡ true
    missed h = ⊎_elim (λ q. or_left (races p.graph cell.writes own.present) (races p.graph cell.reads own.present) (outside-races p.graph cell.writes own.present q)) (λ q. or_right (races p.graph cell.writes own.present) (races p.graph cell.reads own.present) (outside-races p.graph cell.reads own.present q)) h
