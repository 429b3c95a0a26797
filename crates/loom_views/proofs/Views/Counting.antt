-- How many elements pass a test, for tests that hold of all that is behind an element for which they hold.
use Rattle.std.proofs.Common.{suc, ◌≡◌, ℕ, ◌≤◌, max, Bool, true, false, not, cond, ◌||◌, ◌&&◌, List, [], ◌∷◌, length, map, refl, ap, sym, ◌∙◌, arith, ⊎_elim}
use Rattle.std.specs.Prelude.{leb, Option, Some}
use Rattle.std.specs.List.{list_any, list_all, find, AllByRecursion}
use Rattle.std.specs.Option.{option_map_or}
use Rattle.std.proofs.lemmas.Bool.{cases_Bool, cond-true, cond-false, or_left, or_right, le-leb, lt-leb, or_cases, and_from, false≢true}
use Rattle.loom_views.specs.Graph.{count}

-- where the test holds, it holds of all that is behind
abbrev pub IsDownward : {X : Type 0} → (X → Bool) → List X → Type 0
IsDownward p [] = Unit {0}
IsDownward p (x ∷ xs) = (p x ≡ true → AllByRecursion (λ y. p y ≡ true) xs) × IsDownward p xs

pub count-yes : {X : Type 0} (p : X → Bool) (x : X) (xs : List X) → p x ≡ true → count p (x ∷ xs) ≡ suc (count p xs)
count-yes p x xs e = cond-true (p x) _ _ e

pub count-no : {X : Type 0} (p : X → Bool) (x : X) (xs : List X) → p x ≡ false → count p (x ∷ xs) ≡ count p xs
count-no p x xs e = cond-false (p x) _ _ e

pub count-le-length : {X : Type 0} (p : X → Bool) (xs : List X) → count p xs ≤ length xs
count-le-length p [] = omega arith
count-le-length p (x ∷ xs) = ⊎_elim (λ e. omega (arith, count-yes p x xs e, count-le-length p xs)) (λ e. omega (arith, count-no p x xs e, count-le-length p xs)) (cases_Bool (p x))

pub count-all : {X : Type 0} (p : X → Bool) (xs : List X) → AllByRecursion (λ y. p y ≡ true) xs → count p xs ≡ length xs
count-all p [] h = refl
count-all p (x ∷ xs) h = count-yes p x xs h.0 ∙ ap suc (count-all p xs h.1)

-- tests that agree on each element of the list
pub count-agree : {X : Type 0} (p q : X → Bool) (xs : List X) → AllByRecursion (λ y. p y ≡ q y) xs → count p xs ≡ count q xs
count-agree p q [] h = refl
count-agree p q (x ∷ xs) h = ap (λ b. cond b (suc (count p xs)) (count p xs)) h.0 ∙ ap (λ n. cond (q x) (suc n) n) (count-agree p q xs h.1)

pub all-weaker : {X : Type 0} (P Q : X → Type 0) (xs : List X) → ((x : X) → P x → Q x) → AllByRecursion P xs → AllByRecursion Q xs
all-weaker P Q [] f h = tt
all-weaker P Q (x ∷ xs) f h = (f x h.0, all-weaker P Q xs f h.1)

pub all-each : {X : Type 0} (P : X → Type 0) (xs : List X) → ((x : X) → P x) → AllByRecursion P xs
all-each P [] f = tt
all-each P (x ∷ xs) f = (f x, all-each P xs f)

-- of two such tests one holds wherever the other does
pub count-either : {X : Type 0} (p q : X → Bool) (xs : List X) → IsDownward p xs → IsDownward q xs → count (λ x. p x || q x) xs ≡ max (count p xs) (count q xs)
count-either p q [] a b = refl
count-either {X} p q (x ∷ xs) a b = ⊎_elim first (λ e. ⊎_elim second (λ f. neither e f (count-either p q xs a.1 b.1)) (cases_Bool (q x))) (cases_Bool (p x))
  where
    first : p x ≡ true → count (λ y. p y || q y) (x ∷ xs) ≡ max (count p (x ∷ xs)) (count q (x ∷ xs))
    first e = omega (arith, count-all p (x ∷ xs) (e, a.0 e), count-le-length q (x ∷ xs), count-all (λ y. p y || q y) (x ∷ xs) (or_left (p x) (q x) e, all-weaker (λ y. p y ≡ true) (λ y. (p y || q y) ≡ true) xs (λ y h. or_left (p y) (q y) h) (a.0 e)))

    second : q x ≡ true → count (λ y. p y || q y) (x ∷ xs) ≡ max (count p (x ∷ xs)) (count q (x ∷ xs))
    second e = omega (arith, count-all q (x ∷ xs) (e, b.0 e), count-le-length p (x ∷ xs), count-all (λ y. p y || q y) (x ∷ xs) (or_right (p x) (q x) e, all-weaker (λ y. q y ≡ true) (λ y. (p y || q y) ≡ true) xs (λ y h. or_right (p y) (q y) h) (b.0 e)))

    neither : p x ≡ false → q x ≡ false → count (λ y. p y || q y) xs ≡ max (count p xs) (count q xs) → count (λ y. p y || q y) (x ∷ xs) ≡ max (count p (x ∷ xs)) (count q (x ∷ xs))
    neither e f ih = rw (e, f) ih

pub downward-either : {X : Type 0} (p q : X → Bool) (xs : List X) → IsDownward p xs → IsDownward q xs → IsDownward (λ x. p x || q x) xs
downward-either p q [] a b = tt
downward-either {X} p q (x ∷ xs) a b = (λ e. ⊎_elim (λ f. all-weaker (λ y. p y ≡ true) (λ y. (p y || q y) ≡ true) xs (λ y h. or_left (p y) (q y) h) (a.0 f)) (λ f. all-weaker (λ y. q y ≡ true) (λ y. (p y || q y) ≡ true) xs (λ y h. or_right (p y) (q y) h) (b.0 f)) (or_cases (p x) (q x) e), downward-either p q xs a.1 b.1)

pub downward-none : {X : Type 0} (xs : List X) → IsDownward (λ x. false) xs
downward-none [] = tt
downward-none (x ∷ xs) = (λ e. absurd (false≢true e), downward-none xs)

pub count-none : {X : Type 0} (xs : List X) → count (λ x. false) xs ≡ 0
count-none [] = refl
count-none (x ∷ xs) = count-none xs

-- the largest number of a list
abbrev pub most : List ℕ → ℕ
most [] = 0
most (n ∷ ns) = max n (most ns)

-- of several such tests one holds wherever some does
pub downward-any : {X : Type 0} (p : X → ℕ → Bool) (js : List ℕ) (xs : List X) → ((j : ℕ) → IsDownward (λ x. p x j) xs) → IsDownward (λ x. list_any (λ j. p x j) js) xs
downward-any p [] xs h = downward-none xs
downward-any p (j ∷ js) xs h = downward-either (λ x. p x j) (λ x. list_any (λ j. p x j) js) xs (h j) (downward-any p js xs h)

pub count-any : {X : Type 0} (p : X → ℕ → Bool) (js : List ℕ) (xs : List X) → ((j : ℕ) → IsDownward (λ x. p x j) xs) → count (λ x. list_any (λ j. p x j) js) xs ≡ most (map (λ j. count (λ x. p x j) xs) js)
count-any p [] xs h = count-none xs
count-any p (j ∷ js) xs h = count-either (λ x. p x j) (λ x. list_any (λ j. p x j) js) xs (h j) (downward-any p js xs h) ∙ ap (λ n. max (count (λ x. p x j) xs) n) (count-any p js xs h)

all-implied : {X : Type 0} (p q : X → Bool) (xs : List X) → AllByRecursion (λ y. q y ≡ true) xs → list_all (λ x. not (p x) || q x) xs ≡ true
all-implied p q [] h = refl
all-implied p q (x ∷ xs) h = and_from (not (p x) || q x) _ (or_right (not (p x)) (q x) h.0) (all-implied p q xs h.1)

-- all that pass the one pass the other just where there are no more of them
pub inside-counts : {X : Type 0} (p q : X → Bool) (xs : List X) → IsDownward p xs → IsDownward q xs → list_all (λ x. not (p x) || q x) xs ≡ leb (count p xs) (count q xs)
inside-counts p q [] a b = refl
inside-counts {X} p q (x ∷ xs) a b = ⊎_elim second (λ f. ⊎_elim (λ e. first e f) (λ e. neither e f (inside-counts p q xs a.1 b.1)) (cases_Bool (p x))) (cases_Bool (q x))
  where
    second : q x ≡ true → list_all (λ y. not (p y) || q y) (x ∷ xs) ≡ leb (count p (x ∷ xs)) (count q (x ∷ xs))
    second e = all-implied p q (x ∷ xs) (e, b.0 e) ∙ sym (le-leb (count p (x ∷ xs)) (count q (x ∷ xs)) (omega (arith, count-all q (x ∷ xs) (e, b.0 e), count-le-length p (x ∷ xs))))

    first : p x ≡ true → q x ≡ false → list_all (λ y. not (p y) || q y) (x ∷ xs) ≡ leb (count p (x ∷ xs)) (count q (x ∷ xs))
    first e f = ap (λ t. t && list_all (λ y. not (p y) || q y) xs) (ap (λ t. not t || q x) e ∙ f) ∙ sym (lt-leb (count p (x ∷ xs)) (count q (x ∷ xs)) (omega (arith, count-all p (x ∷ xs) (e, a.0 e), count-no q x xs f, count-le-length q xs)))

    neither : p x ≡ false → q x ≡ false → list_all (λ y. not (p y) || q y) xs ≡ leb (count p xs) (count q xs) → list_all (λ y. not (p y) || q y) (x ∷ xs) ≡ leb (count p (x ∷ xs)) (count q (x ∷ xs))
    neither e f ih = rw (e, f) ih

found_passes : {X : Type 0} (p q : X → Bool) (xs : List X) → AllByRecursion (λ y. q y ≡ true) xs → option_map_or q (find p xs) true ≡ true
found_passes p q [] h = refl
found_passes {X} p q (x ∷ xs) h = ⊎_elim (λ e. ap (λ t. option_map_or q (cond {A = Option X} t (Some x) (find p xs)) true) e ∙ h.0) (λ e. ap (λ t. option_map_or q (cond {A = Option X} t (Some x) (find p xs)) true) e ∙ found_passes p q xs h.1) (cases_Bool (p x))

-- the first that passes the one passes the other just where there are no more of the one
pub first-counts : {X : Type 0} (p q : X → Bool) (xs : List X) → IsDownward p xs → IsDownward q xs → option_map_or q (find p xs) true ≡ leb (count p xs) (count q xs)
first-counts p q [] a b = refl
first-counts {X} p q (x ∷ xs) a b = ⊎_elim found (λ e. ⊎_elim (passed e) (λ f. neither e f (first-counts p q xs a.1 b.1)) (cases_Bool (q x))) (cases_Bool (p x))
  where
    found : p x ≡ true → option_map_or q (find p (x ∷ xs)) true ≡ leb (count p (x ∷ xs)) (count q (x ∷ xs))
    found e = ap (λ t. option_map_or q (cond {A = Option X} t (Some x) (find p xs)) true) e ∙ ⊎_elim (λ f. f ∙ sym (le-leb (count p (x ∷ xs)) (count q (x ∷ xs)) (omega (arith, count-all q (x ∷ xs) (f, b.0 f), count-le-length p (x ∷ xs))))) (λ f. f ∙ sym (lt-leb (count p (x ∷ xs)) (count q (x ∷ xs)) (omega (arith, count-all p (x ∷ xs) (e, a.0 e), count-no q x xs f, count-le-length q xs)))) (cases_Bool (q x))

    passed : p x ≡ false → q x ≡ true → option_map_or q (find p (x ∷ xs)) true ≡ leb (count p (x ∷ xs)) (count q (x ∷ xs))
    passed e f = ap (λ t. option_map_or q (cond {A = Option X} t (Some x) (find p xs)) true) e ∙ found_passes p q xs (b.0 f) ∙ sym (le-leb (count p (x ∷ xs)) (count q (x ∷ xs)) (omega (arith, count-all q (x ∷ xs) (f, b.0 f), count-le-length p (x ∷ xs))))

    neither : p x ≡ false → q x ≡ false → option_map_or q (find p xs) true ≡ leb (count p xs) (count q xs) → option_map_or q (find p (x ∷ xs)) true ≡ leb (count p (x ∷ xs)) (count q (x ∷ xs))
    neither e f ih = rw (e, f) ih
