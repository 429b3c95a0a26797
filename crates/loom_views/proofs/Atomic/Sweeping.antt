-- A sweep from the newest point down finds the points that reach.
use Rattle.std.proofs.Common.{◌≡◌, ℕ, Bool, true, false, ◌||◌, ◌&&◌, List, [], ◌∷◌, ◌++◌, length, refl, ap, sym, ◌∙◌, arith, inr, ⊎_elim}
use Rattle.std.specs.Prelude.{◌==◌}
use Rattle.std.specs.List.{list_any}
use Rattle.std.proofs.lemmas.Bool.{cases_Bool, cases_eq, eq-eqb, ne_eqb}
use Rattle.loom_views.specs.Graph.{Point, Graph, reaches, is_among, past}
use Rattle.loom_views.proofs.Views.Reaching.{reaches-new, reaches-other, reaches-none}
use Rattle.loom_views.proofs.Atomic.Loops.{list_any-append}

never : (i : ℕ) (ks : List ℕ) → list_any (λ k. reaches [] i k) ks ≡ false
unfolding reaches
never i [] = refl
never i (k ∷ ks) = never i ks

-- i is the newest point, or reaches what that comes after
abbrev leads : Point → Graph → ℕ → Bool
leads p g i = i == length g || list_any (λ j. reaches g i j) p.after

among_new : (a m r rest : Bool) → rest ≡ ((m && a) || r) → (a || rest) ≡ (((true || m) && a) || (false || r))
among_new true m r rest e = refl
among_new false true r rest e = e
among_new false false r rest e = e

among_old : (b a m r rest : Bool) → rest ≡ ((m && a) || r) → (b || rest) ≡ (((false || m) && a) || (b || r))
among_old true true true r rest e = refl
among_old true true false r rest e = refl
among_old true false true r rest e = refl
among_old true false false r rest e = refl
among_old false a m r rest e = e

-- what reaches one of these once there is a new point
swept : (p : Point) (g : Graph) (i : ℕ) (ks : List ℕ) → list_any (λ k. reaches (p ∷ g) i k) ks ≡ ((is_among (length g) ks && leads p g i) || list_any (λ k. reaches g i k) ks)
swept p g i [] = refl
swept p g i (k ∷ ks) = ⊎_elim (λ e. new e (swept p g i ks)) (λ n. old n (swept p g i ks)) (cases_eq k (length g))
  where
    new : k ≡ length g → list_any (λ k. reaches (p ∷ g) i k) ks ≡ ((is_among (length g) ks && leads p g i) || list_any (λ k. reaches g i k) ks) → list_any (λ k. reaches (p ∷ g) i k) (k ∷ ks) ≡ ((is_among (length g) (k ∷ ks) && leads p g i) || list_any (λ k. reaches g i k) (k ∷ ks))
    new e h = rw (e, reaches-new p g i, eq-eqb (length g) (length g) refl, reaches-none g i (length g) (inr (omega arith))) (among_new (leads p g i) (is_among (length g) ks) (list_any (λ k. reaches g i k) ks) (list_any (λ k. reaches (p ∷ g) i k) ks) h)

    old : (k ≡ length g → ⊥) → list_any (λ k. reaches (p ∷ g) i k) ks ≡ ((is_among (length g) ks && leads p g i) || list_any (λ k. reaches g i k) ks) → list_any (λ k. reaches (p ∷ g) i k) (k ∷ ks) ≡ ((is_among (length g) (k ∷ ks) && leads p g i) || list_any (λ k. reaches g i k) (k ∷ ks))
    old n h = rw (reaches-other p g i k n, ne_eqb k (length g) n) (among_old (reaches g i k) (leads p g i) (is_among (length g) ks) (list_any (λ k. reaches g i k) ks) (list_any (λ k. reaches (p ∷ g) i k) ks) h)

eqb-turned : (a b : ℕ) → (a == b) ≡ (b == a)
eqb-turned a b = ⊎_elim (λ e. eq-eqb a b e ∙ sym (eq-eqb b a (sym e))) (λ n. ne_eqb a b n ∙ sym (ne_eqb b a (λ e. n (sym e)))) (cases_eq a b)

found : (a b r : Bool) → (a || (b || r)) ≡ ((true && (a || b)) || r)
found true b r = refl
found false b r = refl

past-yes : (p : Point) (g : Graph) (ks : List ℕ) → is_among (length g) ks ≡ true → past (p ∷ g) ks ≡ length g ∷ past g (p.after ++ ks)
unfolding past
past-yes p g ks e = rw (e, past) refl

past-no : (p : Point) (g : Graph) (ks : List ℕ) → is_among (length g) ks ≡ false → past (p ∷ g) ks ≡ past g ks
unfolding past
past-no p g ks e = rw (e, past) refl

past-none : (i : ℕ) (ks : List ℕ) → is_among i (past [] ks) ≡ false
unfolding past
past-none i ks = refl

pub past-any : (g : Graph) (ks : List ℕ) (i : ℕ) → is_among i (past g ks) ≡ list_any (λ k. reaches g i k) ks
past-any [] ks i = past-none i ks ∙ sym (never i ks)
past-any (p ∷ g) ks i = ⊎_elim (yes (past-any g (p.after ++ ks) i)) (no (past-any g ks i)) (cases_Bool (is_among (length g) ks))
  where
    yes : is_among i (past g (p.after ++ ks)) ≡ list_any (λ k. reaches g i k) (p.after ++ ks) → is_among (length g) ks ≡ true → is_among i (past (p ∷ g) ks) ≡ list_any (λ k. reaches (p ∷ g) i k) ks
    yes h e = ap (is_among i) (past-yes p g ks e)
        ∙ ap (λ b. (length g == i) || b) (h ∙ list_any-append (λ k. reaches g i k) p.after ks)
        ∙ ap (λ b. b || (list_any (λ k. reaches g i k) p.after || list_any (λ k. reaches g i k) ks)) (eqb-turned (length g) i)
        ∙ found (i == length g) (list_any (λ k. reaches g i k) p.after) (list_any (λ k. reaches g i k) ks)
        ∙ ap (λ b. (b && leads p g i) || list_any (λ k. reaches g i k) ks) (sym e)
        ∙ sym (swept p g i ks)

    no : is_among i (past g ks) ≡ list_any (λ k. reaches g i k) ks → is_among (length g) ks ≡ false → is_among i (past (p ∷ g) ks) ≡ list_any (λ k. reaches (p ∷ g) i k) ks
    no h e = ap (is_among i) (past-no p g ks e) ∙ h ∙ ap (λ b. (b && leads p g i) || list_any (λ k. reaches g i k) ks) (sym e) ∙ sym (swept p g i ks)

pub past-is : (g : Graph) (i k : ℕ) → reaches g i k ≡ is_among i (past g (k ∷ []))
past-is g i k = sym (past-any g (k ∷ []) i ∙ drop_false (reaches g i k))
  where
    drop_false : (a : Bool) → (a || false) ≡ a
    drop_false true = refl
    drop_false false = refl
