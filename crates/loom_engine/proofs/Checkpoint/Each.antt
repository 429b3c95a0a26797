-- Reading every element.
use Rattle.std.proofs.Common.{◌≡◌, ℕ, zero, suc, ◌+◌, ◌<◌, List, [], ◌∷◌, ◌++◌, length, map, take, get_or, Option, Some, None, option_map, option_and_then, refl, sym, ap, ◌∙◌, arith}
use Rattle.std.proofs.lemmas.List.{map-append, take_more}
use Rattle.loom_engine.specs.Checkpoint.Reader.{each}
use Rattle.loom_engine.proofs.Checkpoint.Chains.{with_step, with_map}

pub each-all : {A B C : Type 0} (f : B → Option C) (h : A → B) (xs : List A) (ys : List C) → length xs ≡ length ys
    → ((k : ℕ) (x : A) (y : C) → k < length xs → f (h (get_or xs k x)) ≡ Some (get_or ys k y)) → each f (map h xs) ≡ Some ys
each-all f h [] [] e all = refl
each-all f h [] (y ∷ ys) e all = absurd (omega arith)
each-all f h (x ∷ xs) [] e all = absurd (omega arith)
each-all f h (x ∷ xs) (y ∷ ys) e all =
    let same : length xs ≡ length ys = omega arith in
    let later = each-all f h xs ys same (λ k a b below. all (suc k) a b (omega arith)) in
    rw (all 0 x y (omega arith), later) refl

rest_fails : {C : Type 0} (o : Option C) (r : Option (List C)) → r ≡ None → option_and_then (λ y. option_map (λ ys. y ∷ ys) r) o ≡ None
rest_fails None r e = refl
rest_fails (Some y) r e = rw e refl

pub each-none : {A B C : Type 0} (f : B → Option C) (h : A → B) (xs : List A) (k : ℕ) (x : A) → k < length xs → x ≡ get_or xs k x → f (h x) ≡ None → each f (map h xs) ≡ None
each-none f h [] k x below at e = absurd (omega arith)
each-none f h (y ∷ xs) zero x below at e = let here : f (h y) ≡ None = ap (λ a. f (h a)) (sym at) ∙ e in rw here refl
each-none f h (y ∷ xs) (suc k) x below at e =
    let under : k < length xs = omega arith in
    let later = each-none f h xs k x under at e in
    rest_fails (f (h y)) _ later

-- past no end, the default does not matter
pub same_at : {A : Type 0} (xs : List A) (k : ℕ) (d x : A) → k < length xs → x ≡ get_or xs k x → get_or xs k d ≡ x
same_at [] k d x h e = absurd (omega arith)
same_at (y ∷ xs) zero d x h e = sym e
same_at (y ∷ xs) (suc k) d x h e = same_at xs k d x (omega arith) e

pub each-last : {A B : Type 0} (f : A → Option B) (xs : List A) (x : A) (ys : List B) (y : B) → each f xs ≡ Some ys → f x ≡ Some y → each f (xs ++ x ∷ []) ≡ Some (ys ++ y ∷ [])
each-last f [] x ys y e is = let p : [] ≡ ys = cc in rw (is, ← p) refl
each-last f (z ∷ xs) x ys y e is =
    with_step (f z) _ ys e (λ w at e1.
    with_map (each f xs) (λ l. w ∷ l) ys e1 (λ l later same.
    rw (at, each-last f xs x l y later is, ← same) refl))

pub each-more : {A B C : Type 0} (f : B → Option C) (h : A → B) (xs : List A) (i : ℕ) (x : A) (ys : List C) (y : C) → i < length xs → x ≡ get_or xs i x
    → each f (map h (take i xs)) ≡ Some ys → f (h x) ≡ Some y → each f (map h (take (i + 1) xs)) ≡ Some (ys ++ y ∷ [])
each-more f h xs i x ys y below at e is = rw (take_more xs i x below, ← at, map-append) (each-last f (map h (take i xs)) (h x) ys y e is)
