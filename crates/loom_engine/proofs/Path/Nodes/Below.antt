-- How many slots are below one, and the slot that has so many below it.
use Rattle.std.proofs.Common.{◌≡◌, ◌+◌, ◌<◌, ◌≤◌, ℕ, zero, suc, min, Bool, true, false, List, [], ◌∷◌, length, take, refl, ap, sym, ◌∙◌, arith, inl, inr}
use Rattle.std.proofs.lemmas.Bool.{cases_Bool, cases_lt, leb-true, leb-false}
use Rattle.std.specs.Prelude.{slice_index, slice_index_or, cond, leb}
use Rattle.loom_engine.specs.Path.Words.{bit, may_read_in, readable_in}
use Rattle.loom_objects.specs.Tree.Stores.{slots_from, slots}

-- a place more, which may be read or not
next_from : (readable : List Bool) (k j : ℕ) → j < length readable → length (slots_from k (take (suc j) readable)) ≡ length (slots_from k (take j readable)) + cond (slice_index_or readable j false) 1 0
next_from [] k j h = absurd (omega arith)
next_from (true ∷ readable) k zero h = omega arith
next_from (false ∷ readable) k zero h = omega arith
next_from (true ∷ readable) k (suc j) h = omega (arith, next_from readable (suc k) j (omega arith))
next_from (false ∷ readable) k (suc j) h = next_from readable (suc k) j (omega arith)

one_at_most : (b : Bool) → cond b 1 0 ≤ 1
one_at_most true = omega arith
one_at_most false = omega arith

-- one place more is counted, where it is below the slot and may be read
module _ (readable : List Bool) (slot place count one : ℕ) (counted : count ≡ length (slots (take (min place slot) readable))) (few : count ≤ place) where
  abbrev Counts : Type 0
  Counts = (count + one ≡ length (slots (take (min (place + 1) slot) readable))) × (count + one ≤ place + 1)

  pub counts_below : place < length readable → place < slot → one ≡ cond (slice_index_or readable place false) 1 0 → Counts
  counts_below h below is =
      let here : min place slot ≡ place = omega arith in
      let next : min (place + 1) slot ≡ suc place = omega arith in
      let before : count ≡ length (slots (take place readable)) = counted ∙ ap (λ (n : ℕ). length (slots (take n readable))) here in
      (omega (arith, before, is, next_from readable 0 place h) ∙ sym (ap (λ (n : ℕ). length (slots (take n readable))) next), omega (arith, is, few, one_at_most (slice_index_or readable place false)))

  pub counts_above : slot ≤ place → one ≡ 0 → Counts
  counts_above above is =
      let same : min place slot ≡ min (place + 1) slot = omega arith in
      (omega (arith, is) ∙ counted ∙ ap (λ (n : ℕ). length (slots (take n readable))) same, omega (arith, is, few))

-- a slot that may be read has its place among those that may
at_place : (readable : List Bool) (k j : ℕ) → j < length readable → slice_index_or readable j false ≡ true → slice_index (slots_from k readable) (length (slots_from k (take j readable))) ≡ k + j
at_place [] k j h e = absurd (omega arith)
at_place (true ∷ readable) k zero h e = omega arith
at_place (false ∷ readable) k zero h e = cc
at_place (true ∷ readable) k (suc j) h e = omega (arith, at_place readable (suc k) j (omega arith) e)
at_place (false ∷ readable) k (suc j) h e = omega (arith, at_place readable (suc k) j (omega arith) e)

-- Of the first slots so many may be read, and either they are no more than the place, or the slot at the place is among them.
pub record IsSought (readable : List Bool) (place at count slot : ℕ) : Type 0 where
  pub counted : count ≡ length (slots (take at readable))
  pub few : slot ≤ at
  pub small : count ≤ at
  pub sought : count ≤ place → slot ≡ at
  pub found : place < count → slot ≡ slice_index (slots readable) place

-- one more slot is looked at, which may be read or not
module _ (readable : List Bool) (place at count slot : ℕ) (h : at < length readable) (z : IsSought readable place at count slot) (one : ℕ) (is : one ≡ cond (slice_index_or readable at false) 1 0) where
  more_counted : count + one ≡ length (slots (take (at + 1) readable))
  more_counted =
      let next : at + 1 ≡ suc at = omega arith in
      omega (arith, z.counted, is, next_from readable 0 at h) ∙ sym (ap (λ (n : ℕ). length (slots (take n readable))) next)

  sought_past : count + one ≤ place → (more : ℕ) → more ≡ 1 → IsSought readable place (at + 1) (count + one) (slot + more)
  sought_past l more e = record {
    counted = more_counted;
    few = omega (arith, z.few, e);
    small = omega (arith, z.small, is, one_at_most (slice_index_or readable at false));
    sought = λ _. omega (arith, e, z.sought (omega arith));
    found = λ m. absurd (omega arith);
  }

  here : place < count + one → count ≤ place → slot ≡ slice_index (slots readable) place
  here l m = elim (cases_Bool (slice_index_or readable at false)) [
    | inl e ↦ (
        let whole : one ≡ 1 = is ∙ ap (λ (b : Bool). cond b 1 0) e in
        let there : place ≡ length (slots (take at readable)) = omega (arith, whole, z.counted) in
        omega (arith, z.sought m, at_place readable 0 at h e) ∙ sym (ap (λ (n : ℕ). slice_index (slots readable) n) there)
        )
    | inr e ↦ (let none : one ≡ 0 = is ∙ ap (λ (b : Bool). cond b 1 0) e in absurd (omega arith))
  ]

  found_so : place < count + one → slot ≡ slice_index (slots readable) place
  found_so l = elim (cases_lt place count) [
    | inl m ↦ z.found m
    | inr m ↦ here l m
  ]

  sought_found : place < count + one → (more : ℕ) → more ≡ 0 → IsSought readable place (at + 1) (count + one) (slot + more)
  sought_found l more e = record {
    counted = more_counted;
    few = omega (arith, z.few, e);
    small = omega (arith, z.small, is, one_at_most (slice_index_or readable at false));
    sought = λ m. absurd (omega arith);
    found = λ _. omega (arith, e, found_so l);
  }

  pub sought_more : (more : ℕ) → more ≡ cond (leb (count + one) place) 1 0 → IsSought readable place (at + 1) (count + one) (slot + more)
  sought_more more e = elim (cases_Bool (leb (count + one) place)) [
    | inl t ↦ sought_past (leb-true (count + one) place t) more (e ∙ ap (λ (b : Bool). cond b 1 0) t)
    | inr f ↦ sought_found (leb-false (count + one) place f) more (e ∙ ap (λ (b : Bool). cond b 1 0) f)
  ]

-- whether a slot may be read, by a word and in its list
pub readable_at : (word at : ℕ) → at < 7 → slice_index_or (readable_in word) at false ≡ may_read_in word at
readable_at word zero h = refl
readable_at word (suc zero) h = refl
readable_at word (suc (suc zero)) h = refl
readable_at word (suc (suc (suc zero))) h = refl
readable_at word (suc (suc (suc (suc zero)))) h = refl
readable_at word (suc (suc (suc (suc (suc zero))))) h = refl
readable_at word (suc (suc (suc (suc (suc (suc zero)))))) h = refl
readable_at word (suc (suc (suc (suc (suc (suc (suc at))))))) h = absurd (omega arith)

pub bit_is : (b : Bool) → bit b ≡ cond b 1 0
bit_is true = refl
bit_is false = refl
