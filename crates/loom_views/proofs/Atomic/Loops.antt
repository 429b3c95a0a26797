-- What loops over the numbers below a bound find.
use Rattle.std.proofs.Common.{append-nil, zero, suc, ◌≡◌, ℕ, ◌+◌, ◌<◌, Bool, true, false, cond, ◌||◌, List, [], ◌∷◌, ◌++◌, map, refl, ap, sym, ◌∙◌, arith, add-one, ⊎_elim, subst}
use Rattle.std.specs.List.{list_any, filter, AllByRecursion}
use Rattle.std.proofs.lemmas.Bool.{cases_eq, or_left, or_right, or_from}
use Rattle.std.proofs.lemmas.List.Elements.{filter-append}
use Rattle.loom_views.specs.Atomic.Slots.{upto}
use Rattle.loom_views.specs.Versions.{join, join_all}

pub upto-push : (n : ℕ) → upto (n + 1) ≡ upto n ++ n ∷ []
upto-push n = rw add-one refl

pub list_any-append : (p : ℕ → Bool) (xs ys : List ℕ) → list_any p (xs ++ ys) ≡ (list_any p xs || list_any p ys)
list_any-append p [] ys = refl
list_any-append p (x ∷ xs) ys = ap (λ b. p x || b) (list_any-append p xs ys) ∙ regroup (p x) (list_any p xs) (list_any p ys)
  where
    regroup : (a b c : Bool) → (a || (b || c)) ≡ ((a || b) || c)
    regroup true b c = refl
    regroup false b c = refl

any-one : (p : ℕ → Bool) (n : ℕ) → list_any p (n ∷ []) ≡ p n
any-one p n = drop_false (p n)
  where
    drop_false : (a : Bool) → (a || false) ≡ a
    drop_false true = refl
    drop_false false = refl

pub any_upto-suc : (p : ℕ → Bool) (n : ℕ) → list_any p (upto (suc n)) ≡ (list_any p (upto n) || p n)
any_upto-suc p n = list_any-append p (upto n) (n ∷ []) ∙ ap (λ b. list_any p (upto n) || b) (any-one p n)

pub any_upto-hit : (p : ℕ → Bool) (n i : ℕ) → i < n → p i ≡ true → list_any p (upto n) ≡ true
any_upto-hit p zero i l e = absurd (omega arith)
any_upto-hit p (suc n) i l e = any_upto-suc p n ∙ ⊎_elim (λ q. or_right (list_any p (upto n)) (p n) (subst (λ k. p k ≡ true) q e)) (λ q. or_left (list_any p (upto n)) (p n) (any_upto-hit p n i (let m : i < suc n = l in omega arith) e)) (cases_eq i n)

pub any_upto-none : (p : ℕ → Bool) (n : ℕ) → ((k : ℕ) → k < n → p k ≡ false) → list_any p (upto n) ≡ false
any_upto-none p zero h = refl
any_upto-none p (suc n) h = any_upto-suc p n ∙ or_from (list_any p (upto n)) (p n) (any_upto-none p n (λ k l. h k (omega arith))) (h n (omega arith))

-- what holds of each number below the bound
pub all_upto : (P : ℕ → Type 0) (n : ℕ) → ((k : ℕ) → k < n → P k) → AllByRecursion P (upto n)
all_upto P zero h = tt
all_upto P (suc n) h = all_push (upto n) (all_upto P n (λ k l. h k (omega arith))) (h n (omega arith))
  where
    all_push : (xs : List ℕ) → AllByRecursion P xs → P n → AllByRecursion P (xs ++ n ∷ [])
    all_push [] a b = (b, tt)
    all_push (x ∷ xs) a b = (a.0, all_push xs a.1 b)

-- tests that agree on the elements of a list
pub list_any-agree : (p q : ℕ → Bool) (xs : List ℕ) → AllByRecursion (λ x. p x ≡ q x) xs → list_any p xs ≡ list_any q xs
list_any-agree p q [] h = refl
list_any-agree p q (x ∷ xs) h = ap (λ b. b || list_any p xs) h.0 ∙ ap (λ b. q x || b) (list_any-agree p q xs h.1)

pub filter-agree : (p q : ℕ → Bool) (xs : List ℕ) → AllByRecursion (λ x. p x ≡ q x) xs → filter p xs ≡ filter q xs
filter-agree p q [] h = refl
filter-agree p q (x ∷ xs) h = ap (λ b. cond b (x ∷ filter p xs) (filter p xs)) h.0 ∙ ap (λ ys. cond (q x) (x ∷ ys) ys) (filter-agree p q xs h.1)

pub filter_upto-suc : (p : ℕ → Bool) (n : ℕ) → filter p (upto (suc n)) ≡ filter p (upto n) ++ cond (p n) (n ∷ []) []
filter_upto-suc p n = filter-append p (upto n) (n ∷ [])

join_all-append : (vs : List ℕ) (wss : List (List ℕ)) (ws : List ℕ) → join_all vs (wss ++ ws ∷ []) ≡ join (join_all vs wss) ws
join_all-append vs [] ws = refl
join_all-append vs (us ∷ wss) ws = join_all-append (join vs us) wss ws

map-push : (f : ℕ → List ℕ) (xs : List ℕ) (n : ℕ) → map f (xs ++ n ∷ []) ≡ map f xs ++ f n ∷ []
map-push f [] n = refl
map-push f (x ∷ xs) n = ap (λ ys. f x ∷ ys) (map-push f xs n)

-- one more number that passes, and one that doesn't
pub join_all_more-yes : (vs : List ℕ) (f : ℕ → List ℕ) (p : ℕ → Bool) (i : ℕ) → p i ≡ true → join_all vs (map f (filter p (upto (i + 1)))) ≡ join (join_all vs (map f (filter p (upto i)))) (f i)
join_all_more-yes vs f p i e = rw (upto-push i, filter-append p (upto i) (i ∷ []), e, map-push f (filter p (upto i)) i) (join_all-append vs (map f (filter p (upto i))) (f i))

pub join_all_more-no : (vs : List ℕ) (f : ℕ → List ℕ) (p : ℕ → Bool) (i : ℕ) → p i ≡ false → join_all vs (map f (filter p (upto (i + 1)))) ≡ join_all vs (map f (filter p (upto i)))
join_all_more-no vs f p i e = rw (upto-push i, filter-append p (upto i) (i ∷ []), e, append-nil (filter p (upto i))) refl

-- one more number, that passes or doesn't
pub join_all_more : (vs : List ℕ) (f : ℕ → List ℕ) (p : ℕ → Bool) (i : ℕ) (passes : Bool) (joined : List ℕ) → passes ≡ p i → joined ≡ join_all vs (map f (filter p (upto i)))
    → cond passes (join joined (f i)) joined ≡ join_all vs (map f (filter p (upto (i + 1))))
join_all_more vs f p i true joined e h = ap (λ us. join us (f i)) h ∙ sym (join_all_more-yes vs f p i (sym e))
join_all_more vs f p i false joined e h = h ∙ sym (join_all_more-no vs f p i (sym e))
