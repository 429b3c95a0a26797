-- What appending a point does to reaching, and that reaching is transitive.
use Rattle.std.proofs.Common.{suc, ◌≡◌, ℕ, ◌<◌, ◌≤◌, Bool, true, false, ◌||◌, List, [], ◌∷◌, length, refl, ap, sym, ◌∙◌, arith, ⊎_elim}
use Rattle.std.specs.Prelude.{◌==◌, ◌⊎◌}
use Rattle.std.specs.List.{list_any}
use Rattle.std.proofs.lemmas.Bool.{eqb-true, eq-eqb, ne_eqb, or_cases, or_left, or_right, cases_eq, false_from_ne_true, true≢false}
use Rattle.loom_views.specs.Graph.{Point, Graph, reaches}

-- two tests of which one implies the other
pub list_any-mono : (p q : ℕ → Bool) (xs : List ℕ) → ((x : ℕ) → p x ≡ true → q x ≡ true) → list_any p xs ≡ true → list_any q xs ≡ true
list_any-mono p q [] h e = e
list_any-mono p q (x ∷ xs) h e =
    ⊎_elim (λ a. or_left (q x) (list_any q xs) (h x a)) (λ a. or_right (q x) (list_any q xs) (list_any-mono p q xs h a)) (or_cases (p x) (list_any p xs) e)

pub reaches-new : (p : Point) (g : Graph) (i : ℕ) → reaches (p ∷ g) i (length g) ≡ ((i == length g) || list_any (λ j. reaches g i j) p.after)
unfolding reaches
reaches-new p g i = rw (eq-eqb (length g) (length g) refl, reaches) refl

pub reaches-other : (p : Point) (g : Graph) (i k : ℕ) → (k ≡ length g → ⊥) → reaches (p ∷ g) i k ≡ reaches g i k
unfolding reaches
reaches-other p g i k h = rw (ne_eqb k (length g) h, reaches) refl

pub reaches-old : (p : Point) (g : Graph) (i k : ℕ) → k < length g → reaches (p ∷ g) i k ≡ reaches g i k
reaches-old p g i k h = reaches-other p g i k (omega arith)

-- from an `any` that passes, what each element that passes gives
pub list_any-gives : (P : Type 0) (p : ℕ → Bool) (xs : List ℕ) → ((x : ℕ) → p x ≡ true → P) → list_any p xs ≡ true → P
list_any-gives P p [] h e = absurd (true≢false (sym e))
list_any-gives P p (x ∷ xs) h e = ⊎_elim (h x) (list_any-gives P p xs h) (or_cases (p x) (list_any p xs) e)

bounds_step : (p : Point) (g : Graph) (i k : ℕ) → ((j : ℕ) → reaches g i j ≡ true → (i ≤ j) × (j < length g)) → reaches (p ∷ g) i k ≡ true → (i ≤ k) × (k < suc (length g))
bounds_step p g i k ih e = ⊎_elim new old (cases_eq k (length g))
  where
    from_new : (i == length g || list_any (λ j. reaches g i j) p.after) ≡ true → i ≤ length g
    from_new h = ⊎_elim (λ a. let q : i ≡ length g = eqb-true i (length g) a in omega arith) (λ a. list_any-gives (i ≤ length g) (λ j. reaches g i j) p.after (λ j b. let q : (i ≤ j) × (j < length g) = ih j b in omega arith) a) (or_cases (i == length g) (list_any (λ j. reaches g i j) p.after) h)

    new : k ≡ length g → (i ≤ k) × (k < suc (length g))
    new h = let b : i ≤ length g = from_new (sym (reaches-new p g i) ∙ ap (λ n. reaches (p ∷ g) i n) (sym h) ∙ e) in omega arith

    old : (k ≡ length g → ⊥) → (i ≤ k) × (k < suc (length g))
    old h = let q : (i ≤ k) × (k < length g) = ih k (sym (reaches-other p g i k h) ∙ e) in omega arith

-- what reaches a point is no newer, and the point is there
pub reaches-bounds : (g : Graph) (i k : ℕ) → reaches g i k ≡ true → (i ≤ k) × (k < length g)
unfolding reaches
reaches-bounds [] i k e = absurd (true≢false (sym e))
reaches-bounds (p ∷ g) i k e = bounds_step p g i k (reaches-bounds g i) e

pub reaches-none : (g : Graph) (i k : ℕ) → (k < i) ⊎ (length g ≤ k) → reaches g i k ≡ false
reaches-none g i k h = false_from_ne_true (reaches g i k) (λ e. let b : (i ≤ k) × (k < length g) = reaches-bounds g i k e in omega arith)

pub reaches-itself : (g : Graph) (i : ℕ) → i < length g → reaches g i i ≡ true
reaches-itself [] i h = absurd (omega arith)
reaches-itself (p ∷ g) i h = ⊎_elim (λ e. rw e (reaches-new p g (length g) ∙ or_left (length g == length g) _ (eq-eqb (length g) (length g) refl))) (λ n. reaches-other p g i i n ∙ reaches-itself g i (let m : i < suc (length g) = h in omega arith)) (cases_eq i (length g))

-- a new point changes nothing about what leads where among the old ones
pub reaches-more : (p : Point) (g : Graph) (i k : ℕ) → reaches g i k ≡ true → reaches (p ∷ g) i k ≡ true
reaches-more p g i k e = let b : (i ≤ k) × (k < length g) = reaches-bounds g i k e in reaches-old p g i k b.1 ∙ e

transitive_step : (p : Point) (g : Graph) (i j k : ℕ) → (reaches g i j ≡ true → (m : ℕ) → reaches g j m ≡ true → reaches g i m ≡ true) → reaches (p ∷ g) i j ≡ true → reaches (p ∷ g) j k ≡ true → reaches (p ∷ g) i k ≡ true
transitive_step p g i j k ih a b = ⊎_elim new old (cases_eq k (length g))
  where
    among_old : j < length g → reaches g i j ≡ true
    among_old h = sym (reaches-old p g i j h) ∙ a

    itself : k ≡ length g → j == length g ≡ true → reaches (p ∷ g) i k ≡ true
    itself h e = let q : k ≡ j = h ∙ sym (eqb-true j (length g) e) in rw q a

    through : k ≡ length g → list_any (λ m. reaches g j m) p.after ≡ true → reaches (p ∷ g) i k ≡ true
    through h e =
        let old_j : j < length g = list_any-gives (j < length g) (λ m. reaches g j m) p.after (λ m f. let q : (j ≤ m) × (m < length g) = reaches-bounds g j m f in omega arith) e in
        rw (h, reaches-new p g i) (or_right (i == length g) _ (list_any-mono (λ m. reaches g j m) (λ m. reaches g i m) p.after (λ m f. ih (among_old old_j) m f) e))

    new : k ≡ length g → reaches (p ∷ g) i k ≡ true
    new h = ⊎_elim (itself h) (through h) (or_cases (j == length g) (list_any (λ m. reaches g j m) p.after) (sym (reaches-new p g j) ∙ ap (λ n. reaches (p ∷ g) j n) (sym h) ∙ b))

    old : (k ≡ length g → ⊥) → reaches (p ∷ g) i k ≡ true
    old h =
        let b' : reaches g j k ≡ true = sym (reaches-other p g j k h) ∙ b in
        let q : (j ≤ k) × (k < length g) = reaches-bounds g j k b' in
        reaches-other p g i k h ∙ ih (among_old (omega arith)) k b'

-- chains join
pub reaches-transitive : (g : Graph) (i j k : ℕ) → reaches g i j ≡ true → reaches g j k ≡ true → reaches g i k ≡ true
unfolding reaches
reaches-transitive [] i j k a b = a
reaches-transitive (p ∷ g) i j k a b = transitive_step p g i j k (λ e m f. reaches-transitive g i j m e f) a b
