-- The set of the slots that pass a test, and what a walk over the slots finds.
use Rattle.std.proofs.Common.{◌≡◌, ◌≢◌, ℕ, zero, suc, ◌+◌, ◌<◌, ◌≤◌, Bool, true, false, not, cond, ◌&&◌, ◌||◌, min, List, [], ◌∷◌, length, map, get_or, set, refl, ap, sym, ◌∙◌, arith, ⊎_elim}
use Rattle.std.specs.Prelude.{◌==◌}
use Rattle.std.specs.List.{filter}
use Rattle.std.proofs.lemmas.Bool.{cases_eq, cases_lt, or_from}
use Rattle.std.proofs.lemmas.Bool.Decides.{nat_tests}
use Rattle.std.proofs.lemmas.List.{ext_get_or, get_or-set_same, get_or-set_other}
use Rattle.loom_views.specs.Atomic.Slots.{upto, has_slot, slot_set, has_order_of, has_equal_order_at}
use Rattle.loom_views.proofs.Atomic.Loops.{list_any-append, filter_upto-suc, any_upto-hit, any_upto-none}

-- one more number that is tested
has-suc : (p : ℕ → Bool) (n i : ℕ) → has_slot (filter p (upto (suc n))) i ≡ (has_slot (filter p (upto n)) i || has_slot (cond (p n) (n ∷ []) []) i)
has-suc p n i = rw (filter_upto-suc p n) (list_any-append (λ j. j == i) (filter p (upto n)) (cond (p n) (n ∷ []) []))

last-other : (b : Bool) (n i : ℕ) → n ≢ i → has_slot (cond b (n ∷ []) []) i ≡ false
last-other true n i h = let e : (n == i) ≡ false = grind (arith, nat_tests) in rw e refl
last-other false n i h = refl

last-same : (b : Bool) (n i : ℕ) → n ≡ i → has_slot (cond b (n ∷ []) []) i ≡ b
last-same true n i h = let e : (n == i) ≡ true = grind (arith, nat_tests) in rw e refl
last-same false n i h = refl

-- what isn't below the bound isn't in the set, and what is below is there where it passes
pub has-beyond : (p : ℕ → Bool) (n i : ℕ) → n ≤ i → has_slot (filter p (upto n)) i ≡ false
has-beyond p zero i l = refl
has-beyond p (suc n) i l = has-suc p n i ∙ or_from (has_slot (filter p (upto n)) i) (has_slot (cond (p n) (n ∷ []) []) i) (has-beyond p n i (omega arith)) (last-other (p n) n i (omega arith))

pub has-below : (p : ℕ → Bool) (n i : ℕ) → i < n → has_slot (filter p (upto n)) i ≡ p i
has-below p zero i l = absurd (omega arith)
has-below p (suc n) i l = has-suc p n i ∙ ⊎_elim same (λ d. other d (has-below p n i (omega arith))) (cases_eq n i)
  where
    no_more : (a b c : Bool) → a ≡ c → b ≡ false → (a || b) ≡ c
    no_more true b c e f = e
    no_more false b c e f = f ∙ e

    same : n ≡ i → (has_slot (filter p (upto n)) i || has_slot (cond (p n) (n ∷ []) []) i) ≡ p i
    same e = rw (has-beyond p n i (omega arith)) (last-same (p n) n i e ∙ ap p e)

    other : n ≢ i → has_slot (filter p (upto n)) i ≡ p i → (has_slot (filter p (upto n)) i || has_slot (cond (p n) (n ∷ []) []) i) ≡ p i
    other d e = no_more (has_slot (filter p (upto n)) i) (has_slot (cond (p n) (n ∷ []) []) i) (p i) e (last-other (p n) n i d)

-- a list of seven tests is the set of what they find
seven_are : (set : List Bool) (q : ℕ → Bool) → length set ≡ 7 → ((i : ℕ) → i < 7 → get_or set i false ≡ q i) → set ≡ map q (0 ∷ 1 ∷ 2 ∷ 3 ∷ 4 ∷ 5 ∷ 6 ∷ [])
seven_are set q e h = ext_get_or false set (map q (0 ∷ 1 ∷ 2 ∷ 3 ∷ 4 ∷ 5 ∷ 6 ∷ [])) e (λ i l. h i (omega arith) ∙ at i (omega arith))
  where
    at : (i : ℕ) → i < 7 → q i ≡ get_or (map q (0 ∷ 1 ∷ 2 ∷ 3 ∷ 4 ∷ 5 ∷ 6 ∷ [])) i false
    at zero l = refl
    at (suc zero) l = refl
    at (suc (suc zero)) l = refl
    at (suc (suc (suc zero))) l = refl
    at (suc (suc (suc (suc zero)))) l = refl
    at (suc (suc (suc (suc (suc zero))))) l = refl
    at (suc (suc (suc (suc (suc (suc zero)))))) l = refl
    at (suc (suc (suc (suc (suc (suc (suc i))))))) l = absurd (omega arith)

-- tests of the numbers below a bound, and none beyond it
pub set-is : (set : List Bool) (p : ℕ → Bool) (n : ℕ) → n ≤ 7 → length set ≡ 7 → ((i : ℕ) → i < n → get_or set i false ≡ p i) → ((i : ℕ) → n ≤ i → get_or set i false ≡ false) → set ≡ slot_set (filter p (upto n))
set-is set p n m e found rest = seven_are set (has_slot (filter p (upto n))) e (λ i l. ⊎_elim (λ b. found i b ∙ sym (has-below p n i b)) (λ b. rest i b ∙ sym (has-beyond p n i b)) (cases_lt i n))

-- a walk over the slots answers one more
pub found-more : (answers : List Bool) (p : ℕ → Bool) (i : ℕ) (b : Bool) → i < length answers → b ≡ p i → ((k : ℕ) → k < i → get_or answers k false ≡ p k) → (k : ℕ) → k < i + 1 → get_or (set answers i b) k false ≡ p k
found-more answers p i b l e h k m = ⊎_elim same other (cases_eq k i)
  where
    same : k ≡ i → get_or (set answers i b) k false ≡ p k
    same q = rw q (get_or-set_same answers i b false l ∙ e)

    other : k ≢ i → get_or (set answers i b) k false ≡ p k
    other q = get_or-set_other answers i k b false q ∙ h k (omega arith)

pub rest-less : (answers : List Bool) (i : ℕ) (b : Bool) → ((k : ℕ) → i ≤ k → get_or answers k false ≡ false) → (k : ℕ) → i + 1 ≤ k → get_or (set answers i b) k false ≡ false
rest-less answers i b h k m = get_or-set_other answers i k b false (λ q. omega arith) ∙ h k (omega arith)

pub none-more : (p : ℕ → Bool) (i : ℕ) → p i ≡ false → ((k : ℕ) → k < i → p k ≡ false) → (k : ℕ) → k < i + 1 → p k ≡ false
none-more p i e h k m = ⊎_elim (λ q. rw q e) (λ q. h k (omega arith)) (cases_eq k i)

-- of a slot's walk over the others: it meets one with its order, it meets one that drops it, or it meets neither
pub met-equal : (same drops : ℕ → ℕ → Bool) (n i j : ℕ) → j < min n 7 → (not (i == j) && same i j) ≡ true → ((k : ℕ) → k < j → drops i k ≡ false) → has_equal_order_at same drops n i ≡ true
met-equal same drops n i j l e h = any_upto-hit (has_order_of same drops i) (min n 7) j l (rw (e, any_upto-none (drops i) j h) refl)

pub met-dropping : (same drops : ℕ → ℕ → Bool) (n i j : ℕ) → drops i j ≡ true → (not (i == j) && same i j) ≡ false → ((k : ℕ) → k < j → has_order_of same drops i k ≡ false) → has_equal_order_at same drops n i ≡ false
met-dropping same drops n i j d e h = any_upto-none (has_order_of same drops i) (min n 7) (λ k l. ⊎_elim (h k) (later k) (cases_lt k j))
  where
    neither : (a : Bool) → (a && false) ≡ false
    neither true = refl
    neither false = refl

    later : (k : ℕ) → j ≤ k → has_order_of same drops i k ≡ false
    later k b = ⊎_elim (λ q. rw (← q, e) refl) (λ q. rw (any_upto-hit (drops i) k j (omega arith) d) (neither (not (i == k) && same i k))) (cases_eq j k)

pub met-apart : (same drops : ℕ → ℕ → Bool) (i j : ℕ) → (not (i == j) && same i j) ≡ false → has_order_of same drops i j ≡ false
met-apart same drops i j e = rw e refl
