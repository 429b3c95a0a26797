-- The first thread that is active, found by a walk over all statuses.
use Rattle.std.proofs.Common.{◌≡◌, ◌+◌, ◌<◌, ◌≤◌, ℕ, zero, suc, Bool, true, false, not, cond, ◌||◌, List, [], ◌∷◌, take, Option, Some, None, refl, ap, sym, ◌∙◌, arith, inl, inr}
use Rattle.std.specs.Prelude.{slice_get}
use Rattle.std.specs.List.{position_from}
use Rattle.std.proofs.lemmas.Bool.{cases_Bool}
use Rattle.loom_engine.specs.declared.rt.path.node.Status.{Status}
use Rattle.loom_engine.specs.Path.Nodes.{is_active}
use Rattle.loom_engine.specs.Path.Words.{status_in, statuses_in}

-- the one, or else the other
abbrev first_or : Option ℕ → Option ℕ → Option ℕ
first_or (Some t) o = Some t
first_or None o = o

one_more : (xs : List Status) (k j : ℕ) (s : Status) → slice_get xs j ≡ Some s
    → position_from is_active k (take (suc j) xs) ≡ first_or (position_from is_active k (take j xs)) (cond (is_active s) (Some (k + j)) None)
one_more [] k j s h = absurd (cc h)
one_more (x ∷ xs) k zero s h =
    let same : x ≡ s = cc h in
    let here : k ≡ k + 0 = omega arith in
    ap (λ (y : Status). cond (is_active y) (Some k) None) same ∙ ap (λ (n : ℕ). cond (is_active s) (Some n) None) here
one_more (x ∷ xs) k (suc j) s h = elim (cases_Bool (is_active x)) [
  | inl e ↦ rw e refl
  | inr e ↦ (let here : (k + 1) + j ≡ k + suc j = omega arith in rw e (one_more xs (k + 1) j s h ∙ ap (λ (n : ℕ). first_or (position_from is_active (k + 1) (take j xs)) (cond (is_active s) (Some n) None)) here))
]

-- of the first statuses none is active, or this is the first that is
pub record IsFirst (xs : List Status) (place thread : ℕ) (is_found : Bool) : Type 0 where
  pub few : thread ≤ place
  pub none : is_found ≡ false → thread ≡ place
  pub first : position_from is_active 0 (take place xs) ≡ cond is_found (Some thread) None

pub first_more : (xs : List Status) (place thread : ℕ) (is_found : Bool) (s : Status) → IsFirst xs place thread is_found → slice_get xs place ≡ Some s
    → (now : Bool) → now ≡ (is_found || is_active s) → (more : ℕ) → more ≡ cond (not now) 1 0 → IsFirst xs (place + 1) (thread + more) now
first_more xs place thread true s z h now e more d =
    let none : more ≡ 0 = d ∙ ap (λ (b : Bool). cond (not b) 1 0) e in
    let next : place + 1 ≡ suc place = omega arith in
    let same : thread ≡ thread + more = omega (arith, none) in
    record {
      few = omega (arith, z.few, none);
      none = λ f. cc;
      first = ap (λ (n : ℕ). position_from is_active 0 (take n xs)) next ∙ one_more xs 0 place s h ∙ ap (λ (o : Option ℕ). first_or o (cond (is_active s) (Some (0 + place)) None)) z.first
          ∙ ap Some same ∙ ap (λ (b : Bool). cond b (Some (thread + more)) None) (sym e);
    }
first_more xs place thread false s z h now e more d =
    let next : place + 1 ≡ suc place = omega arith in
    let so_far = ap (λ (n : ℕ). position_from is_active 0 (take n xs)) next ∙ one_more xs 0 place s h ∙ ap (λ (o : Option ℕ). first_or o (cond (is_active s) (Some (0 + place)) None)) z.first in
    elim (cases_Bool (is_active s)) [
      | inl a ↦ (
          let is : now ≡ true = e ∙ a in
          let none : more ≡ 0 = d ∙ ap (λ (b : Bool). cond (not b) 1 0) is in
          let same : 0 + place ≡ thread + more = omega (arith, none, z.none refl) in
          record {
            few = omega (arith, z.few, none);
            none = λ f. cc;
            first = so_far ∙ ap (λ (b : Bool). cond b (Some (0 + place)) None) a ∙ ap Some same ∙ ap (λ (b : Bool). cond b (Some (thread + more)) None) (sym is);
          }
          )
      | inr a ↦ (
          let is : now ≡ false = e ∙ a in
          let one : more ≡ 1 = d ∙ ap (λ (b : Bool). cond (not b) 1 0) is in
          record {
            few = omega (arith, z.few, one);
            none = λ f. omega (arith, one, z.none refl);
            first = so_far ∙ ap (λ (b : Bool). cond b (Some (0 + place)) None) a ∙ ap (λ (b : Bool). cond b (Some (thread + more)) None) (sym is);
          }
          )
    ]

-- a thread's status, by a word and in its list
pub status_at : (word place : ℕ) → place < 5 → slice_get (statuses_in word) place ≡ Some (status_in word place)
status_at word zero h = refl
status_at word (suc zero) h = refl
status_at word (suc (suc zero)) h = refl
status_at word (suc (suc (suc zero))) h = refl
status_at word (suc (suc (suc (suc zero)))) h = refl
status_at word (suc (suc (suc (suc (suc place))))) h = absurd (omega arith)
