-- What is seen of points in two graphs at once: where counts in the one are in the same order as counts in the other, they go on so when
-- the graphs grow alike.
use Rattle.std.proofs.Common.{suc, ◌≡◌, ℕ, ◌+◌, ◌<◌, ◌≤◌, max, Bool, true, false, not, cond, ◌||◌, ◌&&◌, List, [], ◌∷◌, ◌++◌, length, refl, ap, sym, ◌∙◌, arith, subst, inl, inr, ⊎_elim, Option, Some, None}
use Rattle.std.specs.Prelude.{◌==◌, nat_le}
use Rattle.std.specs.List.{list_any, list_all, find, AllByRecursion}
use Rattle.std.specs.Option.{option_map_or}
use Rattle.std.proofs.lemmas.Bool.{cases_Bool, cases_eq, cases_lt, cond-true, cond-false, eq-eqb, ne_eqb, eqb-true, le-leb, lt-leb, leb-true, leb-false, or_left, or_right}
use Rattle.loom_views.specs.Graph.{Point, Graph, threads, reaches, raises_version, raised, count, version, inside, IsChain}
use Rattle.loom_views.specs.AccessRecords.{races}
use Rattle.loom_views.specs.Atomic.History.{is_touch_seen, is_touch_before}
use Rattle.loom_views.specs.InOrder.{IsRising}
use Rattle.loom_views.specs.Sight.{number, awaits}
use Rattle.loom_views.proofs.Views.Counting.{IsDownward, count-yes, count-no, count-le-length, count-agree, count-none, count-either, all-weaker, all-each, downward-any, inside-counts, first-counts}
use Rattle.loom_views.proofs.Views.Reaching.{reaches-itself, reaches-new, reaches-other, reaches-none, reaches-more}
use Rattle.loom_views.proofs.Views.Views.{raised-bounds, raised-yes, raised-no, chain-more, chain-downward}

-- ---- lists of tests

any_same : (p q : ℕ → Bool) (xs : List ℕ) → ((x : ℕ) → p x ≡ q x) → list_any p xs ≡ list_any q xs
any_same p q [] h = refl
any_same p q (x ∷ xs) h = ap (λ b. b || list_any p xs) (h x) ∙ ap (λ b. q x || b) (any_same p q xs h)

any_weaker : (p q : ℕ → Bool) (xs : List ℕ) → ((x : ℕ) → p x ≡ true → q x ≡ true) → list_any p xs ≡ true → list_any q xs ≡ true
any_weaker p q [] h e = e
any_weaker p q (x ∷ xs) h e = ⊎_elim (λ f. or_left (q x) (list_any q xs) (h x f)) (λ f. or_right (q x) (list_any q xs) (any_weaker p q xs h (sym (ap (λ b. b || list_any p xs) f) ∙ e))) (cases_Bool (p x))

any_append : (p : ℕ → Bool) (xs ys : List ℕ) → list_any p (xs ++ ys) ≡ (list_any p xs || list_any p ys)
any_append p [] ys = refl
any_append p (x ∷ xs) ys = ap (λ b. p x || b) (any_append p xs ys) ∙ grouped (p x) (list_any p xs) (list_any p ys)
  where
    grouped : (a b c : Bool) → (a || (b || c)) ≡ ((a || b) || c)
    grouped true b c = refl
    grouped false b c = refl

or_none : (b : Bool) → (b || false) ≡ b
or_none true = refl
or_none false = refl

spread : (a b c d e : Bool) → ((a || (b && e)) || (c || (d && e))) ≡ ((a || c) || ((b || d) && e))
spread true b c d e = refl
spread false true true d true = refl
spread false true true d false = refl
spread false false true d e = refl
spread false true false d true = refl
spread false true false true false = refl
spread false true false false false = refl
spread false false false d e = refl

any_spread : (p q : ℕ → Bool) (e : Bool) (ks : List ℕ) → list_any (λ k. p k || (q k && e)) ks ≡ (list_any p ks || (list_any q ks && e))
any_spread p q e [] = refl
any_spread p q e (k ∷ ks) = ap (λ b. (p k || (q k && e)) || b) (any_spread p q e ks) ∙ spread (p k) (q k) (list_any p ks) (list_any q ks) e

-- ---- counts

count_weaker : (p q : ℕ → Bool) (xs : List ℕ) → ((x : ℕ) → p x ≡ true → q x ≡ true) → count p xs ≤ count q xs
count_weaker p q [] h = omega arith
count_weaker p q (x ∷ xs) h = ⊎_elim
    (λ e. let a = count-yes p x xs e in let b = count-yes q x xs (h x e) in let c = count_weaker p q xs h in omega arith)
    (λ e. let a = count-no p x xs e in let c = count_weaker p q xs h in ⊎_elim (λ f. let b = count-yes q x xs f in omega arith) (λ f. let b = count-no q x xs f in omega arith) (cases_Bool (q x)))
    (cases_Bool (p x))

-- where as many pass as there are, all do
count_full : (p : ℕ → Bool) (xs : List ℕ) → count p xs ≡ length xs → AllByRecursion (λ x. p x ≡ true) xs
count_full p [] e = tt
count_full p (x ∷ xs) e = ⊎_elim
    (λ f. let a = count-yes p x xs f in (f, count_full p xs (omega arith)))
    (λ f. let a = count-no p x xs f in let b = count-le-length p xs in absurd (omega arith))
    (cases_Bool (p x))

-- ---- one more point

-- one of these is the next point
abbrev is_next : Graph → List ℕ → Bool
is_next g ks = list_any (λ k. k == length g) ks

awaits_first : (g : Graph) (ks : List ℕ) → awaits g ks 0 ≡ is_next g ks
awaits_first g ks = ap (λ n. list_any (λ k. k == n) ks) (let e : 0 + length g ≡ length g = omega arith in e)

-- a point reaches one of these
abbrev reaches_one : Graph → List ℕ → ℕ → Bool
reaches_one g ks i = list_any (λ k. reaches g i k) ks

number_is : (g : Graph) (ks : List ℕ) (t : ℕ) → number g ks t ≡ count (reaches_one g ks) (raised g t)
unfolding number
number_is g ks t = refl

pub number_most : (g : Graph) (ks : List ℕ) (t : ℕ) → number g ks t ≤ length (raised g t)
unfolding number
number_most g ks t = count-le-length (reaches_one g ks) (raised g t)

pub number_none : (g : Graph) (t : ℕ) → number g [] t ≡ 0
unfolding number
number_none g t = count-none (raised g t)

pub number_one : (g : Graph) (k t : ℕ) → number g (k ∷ []) t ≡ version g k t
unfolding number version
number_one g k t = count-agree (reaches_one g (k ∷ [])) (λ i. reaches g i k) (raised g t) (all-each (λ i. reaches_one g (k ∷ []) i ≡ reaches g i k) (raised g t) (λ i. or_none (reaches g i k)))

one_downward : (g : Graph) (ks : List ℕ) (t : ℕ) → IsChain g (raised g t) → IsDownward (reaches_one g ks) (raised g t)
one_downward g ks t c = downward-any (λ i k. reaches g i k) ks (raised g t) (λ k. chain-downward g (raised g t) c k)

pub number_append : (g : Graph) (ks ls : List ℕ) (t : ℕ) → IsChain g (raised g t) → number g (ks ++ ls) t ≡ max (number g ks t) (number g ls t)
unfolding number
number_append g ks ls t c =
    count-agree (reaches_one g (ks ++ ls)) (λ i. reaches_one g ks i || reaches_one g ls i) (raised g t) (all-each (λ i. reaches_one g (ks ++ ls) i ≡ (reaches_one g ks i || reaches_one g ls i)) (raised g t) (λ i. any_append (λ k. reaches g i k) ks ls))
    ∙ count-either (reaches_one g ks) (reaches_one g ls) (raised g t) (one_downward g ks t c) (one_downward g ls t c)

module _ (p : Point) (g : Graph) where
  awaits_step : (ks : List ℕ) (n : ℕ) → awaits (p ∷ g) ks n ≡ awaits g ks (suc n)
  awaits_step ks n = ap (λ m. list_any (λ k. k == m) ks) (let e : n + suc (length g) ≡ suc n + length g = omega arith in e)

  -- the new point reaches itself alone
  new_reaches : (k : ℕ) → reaches (p ∷ g) (length g) k ≡ (k == length g)
  new_reaches k = ⊎_elim yes no (cases_eq k (length g))
    where
      yes : k ≡ length g → reaches (p ∷ g) (length g) k ≡ (k == length g)
      yes e = ap (λ m. reaches (p ∷ g) (length g) m) e ∙ reaches-itself (p ∷ g) (length g) (omega arith) ∙ sym (eq-eqb k (length g) e)

      far : (k ≡ length g → ⊥) → reaches g (length g) k ≡ false
      far n = ⊎_elim (λ l. reaches-none g (length g) k (inl l)) (λ l. reaches-none g (length g) k (inr l)) (cases_lt k (length g))

      no : (k ≡ length g → ⊥) → reaches (p ∷ g) (length g) k ≡ (k == length g)
      no n = reaches-other p g (length g) k n ∙ far n ∙ sym (ne_eqb k (length g) n)

  -- an old point reaches what it reached, and the new point where it reached what that comes after
  old_reaches : (i : ℕ) → i < length g → (k : ℕ) → reaches (p ∷ g) i k ≡ (reaches g i k || ((k == length g) && list_any (λ j. reaches g i j) p.after))
  old_reaches i l k = ⊎_elim yes no (cases_eq k (length g))
    where
      yes : k ≡ length g → reaches (p ∷ g) i k ≡ (reaches g i k || ((k == length g) && list_any (λ j. reaches g i j) p.after))
      yes e =
          ap (λ m. reaches (p ∷ g) i m) e ∙ reaches-new p g i ∙ ap (λ b. b || list_any (λ j. reaches g i j) p.after) (ne_eqb i (length g) (omega arith))
          ∙ sym (ap (λ b. b || ((k == length g) && list_any (λ j. reaches g i j) p.after)) (reaches-none g i k (inr (omega arith))) ∙ ap (λ b. b && list_any (λ j. reaches g i j) p.after) (eq-eqb k (length g) e))

      no : (k ≡ length g → ⊥) → reaches (p ∷ g) i k ≡ (reaches g i k || ((k == length g) && list_any (λ j. reaches g i j) p.after))
      no n = reaches-other p g i k n ∙ sym (ap (λ b. reaches g i k || (b && list_any (λ j. reaches g i j) p.after)) (ne_eqb k (length g) n) ∙ or_none (reaches g i k))

  old_one : (ks : List ℕ) (i : ℕ) → i < length g → reaches_one (p ∷ g) ks i ≡ (reaches_one g ks i || (is_next g ks && reaches_one g p.after i))
  old_one ks i l =
      any_same (λ k. reaches (p ∷ g) i k) (λ k. reaches g i k || ((k == length g) && reaches_one g p.after i)) ks (old_reaches i l)
      ∙ any_spread (λ k. reaches g i k) (λ k. k == length g) (reaches_one g p.after i) ks

  -- of the old points as many reach these as before, or those that reached what the next point comes after too, where it is one of them
  abbrev counted : Bool → ℕ → ℕ → ℕ
  counted next n m = cond next (max n m) n

  old_count : (ks : List ℕ) (t : ℕ) → IsChain g (raised g t) → count (reaches_one (p ∷ g) ks) (raised g t) ≡ counted (is_next g ks) (number g ks t) (number g p.after t)
  unfolding number
  old_count ks t c =
      count-agree (reaches_one (p ∷ g) ks) (λ i. reaches_one g ks i || (is_next g ks && reaches_one g p.after i)) (raised g t)
      (all-weaker (λ i. i < length g) (λ i. reaches_one (p ∷ g) ks i ≡ (reaches_one g ks i || (is_next g ks && reaches_one g p.after i))) (raised g t) (old_one ks) (raised-bounds g t))
      ∙ by (is_next g ks)
    where
      by : (next : Bool) → count (λ i. reaches_one g ks i || (next && reaches_one g p.after i)) (raised g t) ≡ counted next (number g ks t) (number g p.after t)
      by true = count-either (reaches_one g ks) (reaches_one g p.after) (raised g t) (one_downward g ks t c) (one_downward g p.after t c)
      by false = count-agree (λ i. reaches_one g ks i || false) (reaches_one g ks) (raised g t) (all-each (λ i. (reaches_one g ks i || false) ≡ reaches_one g ks i) (raised g t) (λ i. or_none (reaches_one g ks i)))

  number_step : (ks : List ℕ) (t : ℕ) → IsChain g (raised g t) → raises_version p.raises t ≡ false → number (p ∷ g) ks t ≡ counted (is_next g ks) (number g ks t) (number g p.after t)
  number_step ks t c e = number_is (p ∷ g) ks t ∙ ap (count (reaches_one (p ∷ g) ks)) (raised-no p g t e) ∙ old_count ks t c

  chain_step : (t : ℕ) → IsChain g (raised g t) → raises_version p.raises t ≡ false → IsChain (p ∷ g) (raised (p ∷ g) t)
  chain_step t c e = subst (IsChain (p ∷ g)) (sym (raised-no p g t e)) (chain-more p g (raised g t) c)

  -- the new point raises a thread, after points that all that raised it before reach
  number_raise : (ks : List ℕ) (t : ℕ) → IsChain g (raised g t) → raises_version p.raises t ≡ true → number g p.after t ≡ length (raised g t)
      → number (p ∷ g) ks t ≡ cond (is_next g ks) (suc (length (raised g t))) (number g ks t)
  number_raise ks t c e full = number_is (p ∷ g) ks t ∙ ap (count (reaches_one (p ∷ g) ks)) (raised-yes p g t e) ∙ ⊎_elim yes no (cases_Bool (is_next g ks))
    where
      itself : reaches_one (p ∷ g) ks (length g) ≡ is_next g ks
      itself = any_same (λ k. reaches (p ∷ g) (length g) k) (λ k. k == length g) ks new_reaches

      yes : is_next g ks ≡ true → count (reaches_one (p ∷ g) ks) (length g ∷ raised g t) ≡ cond (is_next g ks) (suc (length (raised g t))) (number g ks t)
      yes f =
          let few = number_most g ks t in
          let all : max (number g ks t) (number g p.after t) ≡ length (raised g t) = omega arith in
          count-yes (reaches_one (p ∷ g) ks) (length g) (raised g t) (itself ∙ f) ∙ ap suc (old_count ks t c ∙ cond-true (is_next g ks) _ _ f ∙ all) ∙ sym (cond-true (is_next g ks) _ _ f)

      no : is_next g ks ≡ false → count (reaches_one (p ∷ g) ks) (length g ∷ raised g t) ≡ cond (is_next g ks) (suc (length (raised g t))) (number g ks t)
      no f = count-no (reaches_one (p ∷ g) ks) (length g) (raised g t) (itself ∙ f) ∙ old_count ks t c ∙ cond-false (is_next g ks) _ _ f ∙ sym (cond-false (is_next g ks) _ _ f)

  chain_raise : (t : ℕ) → IsChain g (raised g t) → raises_version p.raises t ≡ true → number g p.after t ≡ length (raised g t) → IsChain (p ∷ g) (raised (p ∷ g) t)
  chain_raise t c e full = subst (IsChain (p ∷ g)) (sym (raised-yes p g t e)) (all, chain-more p g (raised g t) c)
    where
      all : AllByRecursion (λ i. reaches (p ∷ g) i (length g) ≡ true) (raised g t)
      all = all-weaker (λ i. reaches_one g p.after i ≡ true) (λ i. reaches (p ∷ g) i (length g) ≡ true) (raised g t) (λ i h. reaches-new p g i ∙ or_right (i == length g) (reaches_one g p.after i) h) (count_full (reaches_one g p.after) (raised g t) (sym (number_is g p.after t) ∙ full))

-- ---- graphs that grow without a raise

-- a thread has raised its version as often, and no fewer of those reach what they reached
pub record Quiet (g g' : Graph) : Type 0 where
  pub raises : (t : ℕ) → raised g' t ≡ raised g t
  pub reach : (ks : List ℕ) (t : ℕ) → number g ks t ≤ number g' ks t

pub quiet_itself : (g : Graph) → Quiet g g
quiet_itself g = record { raises = λ t. refl; reach = λ ks t. omega arith }

pub quiet_then : (g g' g'' : Graph) → Quiet g g' → Quiet g' g'' → Quiet g g''
quiet_then g g' g'' a b = record { raises = λ t. b.raises t ∙ a.raises t; reach = λ ks t. let x = a.reach ks t in let y = b.reach ks t in omega arith }

pub reach_more : (p : Point) (g : Graph) (ks : List ℕ) (t : ℕ) → raises_version p.raises t ≡ false → number g ks t ≤ number (p ∷ g) ks t
reach_more p g ks t e =
    let one = number_is g ks t in
    let two = number_is (p ∷ g) ks t ∙ ap (count (reaches_one (p ∷ g) ks)) (raised-no p g t e) in
    let more = count_weaker (reaches_one g ks) (reaches_one (p ∷ g) ks) (raised g t) (λ i h. any_weaker (λ k. reaches g i k) (λ k. reaches (p ∷ g) i k) ks (λ k f. reaches-more p g i k f) h) in
    omega arith

pub quiet_step : (g : Graph) (js : List ℕ) → Quiet g (record { after = js; raises = None } ∷ g)
quiet_step g js = record { raises = λ t. raised-no (record { after = js; raises = None }) g t refl; reach = λ ks t. reach_more (record { after = js; raises = None }) g ks t refl }

-- so are both graphs
abbrev pub BothQuiet : Graph → Graph → Graph → Graph → Type 0
BothQuiet g h g' h' = Quiet g g' × Quiet h h'

pub both_quiet_itself : (g h : Graph) → BothQuiet g h g h
both_quiet_itself g h = (quiet_itself g, quiet_itself h)

pub both_quiet_then : (g h g' h' g'' h'' : Graph) → BothQuiet g h g' h' → BothQuiet g' h' g'' h'' → BothQuiet g h g'' h''
both_quiet_then g h g' h' g'' h'' a b = (quiet_then g g' g'' a.0 b.0, quiet_then h h' h'' a.1 b.1)

pub both_quiet_step : (g h : Graph) (js ls : List ℕ) → BothQuiet g h (record { after = js; raises = None } ∷ g) (record { after = ls; raises = None } ∷ h)
both_quiet_step g h js ls = (quiet_step g js, quiet_step h ls)

-- all that thread t has raised reaches this point
abbrev pub IsFull : Graph → ℕ → ℕ → Type 0
IsFull g t k = number g (k ∷ []) t ≡ length (raised g t)

pub full_later : (g g' : Graph) → Quiet g g' → (t k : ℕ) → IsFull g t k → IsFull g' t k
full_later g g' quiet t k full =
    let a = quiet.reach (k ∷ []) t in
    let b = number_most g' (k ∷ []) t in
    let c = ap (λ (xs : List ℕ). length xs) (quiet.raises t) in
    omega arith

-- also where another thread is raised
pub full_beside : (p : Point) (g : Graph) (t k : ℕ) → raises_version p.raises t ≡ false → IsFull g t k → IsFull (p ∷ g) t k
full_beside p g t k e full =
    let a = reach_more p g (k ∷ []) t e in
    let b = number_most (p ∷ g) (k ∷ []) t in
    let c = ap (λ (xs : List ℕ). length xs) (raised-no p g t e) in
    omega arith

-- so does a new point after it, and after others
pub full_new : (g : Graph) (t k : ℕ) (js : List ℕ) → IsFull g t k → IsFull (record { after = k ∷ js; raises = None } ∷ g) t (length g)
full_new g t k js full =
    let p : Point = record { after = k ∷ js; raises = None } in
    let a = number_most (p ∷ g) (length g ∷ []) t in
    let b = ap (λ (xs : List ℕ). length xs) (raised-no p g t refl) in
    let c = number_is (p ∷ g) (length g ∷ []) t ∙ ap (count (reaches_one (p ∷ g) (length g ∷ []))) (raised-no p g t refl) in
    let d = count_weaker (reaches_one g (k ∷ [])) (reaches_one (p ∷ g) (length g ∷ [])) (raised g t)
    (λ i h. or_left (reaches (p ∷ g) i (length g)) false (reaches-new p g i ∙ or_right (i == length g) (reaches_one g (k ∷ js) i) (or_left (reaches g i k) (reaches_one g js i) (sym (or_none (reaches g i k)) ∙ h)))) in
    let e = number_is g (k ∷ []) t in
    omega arith

-- a new point that raises is reached by all that raise, too
pub full_raised : (g : Graph) (t : ℕ) (js : List ℕ) (r : Option ℕ) → IsChain g (raised g t) → raises_version r t ≡ true → number g js t ≡ length (raised g t) → IsFull (record { after = js; raises = r } ∷ g) t (length g)
full_raised g t js r c e full =
    let p : Point = record { after = js; raises = r } in
    let next : is_next g (length g ∷ []) ≡ true = or_left (length g == length g) false (eq-eqb (length g) (length g) refl) in
    number_raise p g (length g ∷ []) t c e full ∙ cond-true (is_next g (length g ∷ [])) _ _ next ∙ sym (ap (λ (xs : List ℕ). length xs) (raised-yes p g t e))

-- ---- two graphs

module _ (R : ℕ → ℕ → ℕ → Type 0) where
  -- as many of the points that raise thread t reach the one points in g, as is paired with how many reach the other ones in h
  pub record SameAt (g h : Graph) (t : ℕ) (ks ms : List ℕ) : Type 0 where
    pub pair : R t (number g ks t) (number h ms t)
    pub awaits : (n : ℕ) → awaits g ks n ≡ awaits h ms n
    pub chain : IsChain g (raised g t)
    pub chain_too : IsChain h (raised h t)

  -- so for each thread
  abbrev pub SameFront : Graph → Graph → List ℕ → List ℕ → Type 0
  SameFront g h ks ms = (t : ℕ) → t < 5 → SameAt g h t ks ms

  -- what was the same in the first two graphs is so in the other two
  abbrev pub Later : Graph → Graph → Graph → Graph → Type 0
  Later g h g' h' = (t : ℕ) → t < 5 → (ks ms : List ℕ) → SameAt g h t ks ms → SameAt g' h' t ks ms

  -- first touches of one thread, and its points at its last yield
  pub data SameTouch (g h : Graph) (t : ℕ) : Option ℕ → Option ℕ → Type 0 where
    no_touch : SameTouch g h t None None
    both_touch : (k m : ℕ) → SameAt g h t (k ∷ []) (m ∷ []) → SameTouch g h t (Some k) (Some m)

  -- all that a thread has raised reaches these points in both graphs, and one more than that in both is a pair
  pub record Raises (g h : Graph) (js ls : List ℕ) (t : ℕ) : Type 0 where
    pub full : number g js t ≡ length (raised g t)
    pub full_too : number h ls t ≡ length (raised h t)
    pub next : R t (suc (length (raised g t))) (suc (length (raised h t)))

  module _ (rising : IsRising R) where
    larger : (t a b c d : ℕ) → R t a b → R t c d → R t (max a c) (max b d)
    larger t a b c d r s = ⊎_elim yes no (cases_Bool (nat_le a c))
      where
        yes : nat_le a c ≡ true → R t (max a c) (max b d)
        yes e =
            let x = leb-true a c e in
            let y = leb-true b d (sym (rising t a b c d r s) ∙ e) in
            let m : c ≡ max a c = omega arith in
            let n : d ≡ max b d = omega arith in
            subst (λ i. R t i (max b d)) m (subst (λ i. R t c i) n s)

        no : nat_le a c ≡ false → R t (max a c) (max b d)
        no e =
            let x = leb-false a c e in
            let y = leb-false b d (sym (rising t a b c d r s) ∙ e) in
            let m : a ≡ max a c = omega arith in
            let n : b ≡ max b d = omega arith in
            subst (λ i. R t i (max b d)) m (subst (λ i. R t a i) n r)

    module _ (g h : Graph) where
      next_same : (t : ℕ) (ks ms : List ℕ) → SameAt g h t ks ms → is_next g ks ≡ is_next h ms
      next_same t ks ms s = sym (awaits_first g ks) ∙ s.awaits 0 ∙ awaits_first h ms

      awaits_later : (js ls : List ℕ) (r : Option ℕ) (t : ℕ) (ks ms : List ℕ) → SameAt g h t ks ms → (n : ℕ) → awaits (record { after = js; raises = r } ∷ g) ks n ≡ awaits (record { after = ls; raises = r } ∷ h) ms n
      awaits_later js ls r t ks ms s n = awaits_step (record { after = js; raises = r }) g ks n ∙ s.awaits (suc n) ∙ sym (awaits_step (record { after = ls; raises = r }) h ms n)

      -- both graphs have one more point, after points of which the same is seen, that doesn't raise the thread
      step_at : (js ls : List ℕ) (r : Option ℕ) (t : ℕ) → raises_version r t ≡ false → SameAt g h t js ls → (ks ms : List ℕ) → SameAt g h t ks ms
          → SameAt (record { after = js; raises = r } ∷ g) (record { after = ls; raises = r } ∷ h) t ks ms
      step_at js ls r t e j ks ms s =
          let one : Point = record { after = js; raises = r } in
          let two : Point = record { after = ls; raises = r } in
          let left = number_step one g ks t s.chain e in
          let right = number_step two h ms t s.chain_too e ∙ ap (λ c. cond c (max (number h ms t) (number h ls t)) (number h ms t)) (sym (next_same t ks ms s)) in
          record {
            pair = subst (λ n. R t n (number (two ∷ h) ms t)) (sym left) (subst (λ n. R t (cond (is_next g ks) (max (number g ks t) (number g js t)) (number g ks t)) n) (sym right) (by (is_next g ks)));
            awaits = awaits_later js ls r t ks ms s;
            chain = chain_step one g t s.chain e;
            chain_too = chain_step two h t s.chain_too e;
          }
        where
          by : (next : Bool) → R t (cond next (max (number g ks t) (number g js t)) (number g ks t)) (cond next (max (number h ms t) (number h ls t)) (number h ms t))
          by true = larger t (number g ks t) (number h ms t) (number g js t) (number h ls t) s.pair j.pair
          by false = s.pair

      pub step : (js ls : List ℕ) → SameFront g h js ls → Later g h (record { after = js; raises = None } ∷ g) (record { after = ls; raises = None } ∷ h)
      step js ls j t l ks ms s = step_at js ls None t refl (j t l) ks ms s

      raise_at : (js ls : List ℕ) (r : Option ℕ) (t : ℕ) → raises_version r t ≡ true → Raises g h js ls t → (ks ms : List ℕ) → SameAt g h t ks ms
          → SameAt (record { after = js; raises = r } ∷ g) (record { after = ls; raises = r } ∷ h) t ks ms
      raise_at js ls r t e raises ks ms s =
          let one : Point = record { after = js; raises = r } in
          let two : Point = record { after = ls; raises = r } in
          let left = number_raise one g ks t s.chain e raises.full in
          let right = number_raise two h ms t s.chain_too e raises.full_too ∙ ap (λ c. cond c (suc (length (raised h t))) (number h ms t)) (sym (next_same t ks ms s)) in
          record {
            pair = subst (λ n. R t n (number (two ∷ h) ms t)) (sym left) (subst (λ n. R t (cond (is_next g ks) (suc (length (raised g t))) (number g ks t)) n) (sym right) (by (is_next g ks)));
            awaits = awaits_later js ls r t ks ms s;
            chain = chain_raise one g t s.chain e raises.full;
            chain_too = chain_raise two h t s.chain_too e raises.full_too;
          }
        where
          by : (next : Bool) → R t (cond next (suc (length (raised g t))) (number g ks t)) (cond next (suc (length (raised h t))) (number h ms t))
          by true = raises.next
          by false = s.pair

      -- one that raises thread t
      pub raise_step : (js ls : List ℕ) (t : ℕ) → SameFront g h js ls → Raises g h js ls t → Later g h (record { after = js; raises = Some t } ∷ g) (record { after = ls; raises = Some t } ∷ h)
      raise_step js ls t j raises u l ks ms s = ⊎_elim
          (λ e. raise_at js ls (Some t) u e (subst (Raises g h js ls) (eqb-true t u e) raises) ks ms s)
          (λ e. step_at js ls (Some t) u e (j u l) ks ms s)
          (cases_Bool (t == u))

      -- the point that will be made next
      awaits_next : (f : Graph) (n : ℕ) → awaits f (length f ∷ []) n ≡ (n == 0)
      awaits_next f n = or_none (length f == n + length f) ∙ ⊎_elim (λ e. eq-eqb (length f) (n + length f) (omega arith) ∙ sym (eq-eqb n 0 e)) (λ e. ne_eqb (length f) (n + length f) (λ q. e (omega arith)) ∙ sym (ne_eqb n 0 e)) (cases_eq n 0)

      number_next : (f : Graph) (t : ℕ) → number f (length f ∷ []) t ≡ number f [] t
      unfolding number
      number_next f t = count-agree (reaches_one f (length f ∷ [])) (λ i. false) (raised f t) (all-each (λ i. reaches_one f (length f ∷ []) i ≡ false) (raised f t) (λ i. or_none (reaches f i (length f)) ∙ reaches-none f i (length f) (inr (omega arith))))

      pub next_point : SameFront g h [] [] → SameFront g h (length g ∷ []) (length h ∷ [])
      next_point s t l = record {
        pair = subst (λ n. R t n (number h (length h ∷ []) t)) (sym (number_next g t)) (subst (λ n. R t (number g [] t) n) (sym (number_next h t)) (s t l).pair);
        awaits = λ n. awaits_next g n ∙ sym (awaits_next h n);
        chain = (s t l).chain;
        chain_too = (s t l).chain_too;
      }

      -- points put together
      pub append_at : (t : ℕ) (ks ls ms ns : List ℕ) → SameAt g h t ks ms → SameAt g h t ls ns → SameAt g h t (ks ++ ls) (ms ++ ns)
      append_at t ks ls ms ns a b = record {
        pair = subst (λ n. R t n (number h (ms ++ ns) t)) (sym (number_append g ks ls t a.chain)) (subst (λ n. R t (max (number g ks t) (number g ls t)) n) (sym (number_append h ms ns t a.chain_too)) (larger t (number g ks t) (number h ms t) (number g ls t) (number h ns t) a.pair b.pair));
        awaits = λ n. any_append (λ k. k == n + length g) ks ls ∙ ap (λ b. b || awaits g ls n) (a.awaits n) ∙ ap (λ c. awaits h ms n || c) (b.awaits n) ∙ sym (any_append (λ k. k == n + length h) ms ns);
        chain = a.chain;
        chain_too = a.chain_too;
      }

      pub appended : (ks ls ms ns : List ℕ) → SameFront g h ks ms → SameFront g h ls ns → SameFront g h (ks ++ ls) (ms ++ ns)
      appended ks ls ms ns a b t l = append_at t ks ls ms ns (a t l) (b t l)

-- ---- what is asked of points

-- all of five tests
pub five_same : (p q : ℕ → Bool) → ((t : ℕ) → t < 5 → p t ≡ q t) → list_all p threads ≡ list_all q threads
five_same p q h = rw (h 0 (omega arith), h 1 (omega arith), h 2 (omega arith), h 3 (omega arith), h 4 (omega arith)) refl

pub five_any : (p q : ℕ → Bool) → ((t : ℕ) → t < 5 → p t ≡ q t) → list_any p threads ≡ list_any q threads
five_any p q h = rw (h 0 (omega arith), h 1 (omega arith), h 2 (omega arith), h 3 (omega arith), h 4 (omega arith)) refl

both_all : (p q : ℕ → Bool) (xs : List ℕ) → list_all (λ x. p x && q x) xs ≡ (list_all p xs && list_all q xs)
both_all p q [] = refl
both_all p q (x ∷ xs) = ap (λ b. (p x && q x) && b) (both_all p q xs) ∙ swapped (p x) (q x) (list_all p xs) (list_all q xs)
  where
    swapped : (a b c d : Bool) → ((a && b) && (c && d)) ≡ ((a && c) && (b && d))
    swapped true true c d = refl
    swapped true false true d = refl
    swapped true false false d = refl
    swapped false b c d = refl

none_outside : (p : ℕ → Bool) (ks : List ℕ) → list_any (λ k. not (p k)) ks ≡ not (list_all p ks)
none_outside p [] = refl
none_outside p (k ∷ ks) = ap (λ b. not (p k) || b) (none_outside p ks) ∙ turned (p k) (list_all p ks)
  where
    turned : (a b : Bool) → (not a || not b) ≡ not (a && b)
    turned true b = refl
    turned false b = refl

-- the larger of two is below a number just where both are
larger_below : (a b c : ℕ) → nat_le (max a b) c ≡ (nat_le a c && nat_le b c)
larger_below a b c = ⊎_elim
    (λ e. let x = leb-true a c e in ⊎_elim
    (λ f. let y = leb-true b c f in le-leb (max a b) c (omega arith) ∙ sym (ap (λ i. i && nat_le b c) e ∙ f))
    (λ f. let y = leb-false b c f in lt-leb (max a b) c (omega arith) ∙ sym (ap (λ i. i && nat_le b c) e ∙ f))
    (cases_Bool (nat_le b c)))
    (λ e. let x = leb-false a c e in lt-leb (max a b) c (omega arith) ∙ sym (ap (λ i. i && nat_le b c) e))
    (cases_Bool (nat_le a c))

module _ (g : Graph) (chains : (t : ℕ) → t < 5 → IsChain g (raised g t)) where
  -- there are no more of thread t's versions at the first points than at the second
  abbrev below : List ℕ → List ℕ → ℕ → Bool
  below ks ms t = nat_le (number g ks t) (number g ms t)

  inside_is : (i k : ℕ) → inside g i k ≡ list_all (below (i ∷ []) (k ∷ [])) threads
  unfolding inside version
  inside_is i k = five_same (λ t. list_all (λ x. not (reaches g x i) || reaches g x k) (raised g t)) (below (i ∷ []) (k ∷ [])) (λ t l.
      inside-counts (λ x. reaches g x i) (λ x. reaches g x k) (raised g t) (chain-downward g (raised g t) (chains t l) i) (chain-downward g (raised g t) (chains t l) k)
      ∙ ap (λ n. nat_le n (version g k t)) (sym (number_one g i t)) ∙ ap (λ n. nat_le (number g (i ∷ []) t) n) (sym (number_one g k t)))

  all_inside : (a : ℕ) (ks : List ℕ) → list_all (λ k. inside g k a) ks ≡ list_all (below ks (a ∷ [])) threads
  all_inside a [] = sym (five_same (below [] (a ∷ [])) (λ t. true) (λ t l. ap (λ n. nat_le n (number g (a ∷ []) t)) (number_none g t) ∙ le-leb 0 (number g (a ∷ []) t) (omega arith)))
  all_inside a (k ∷ ks) =
      ap (λ b. b && list_all (λ k. inside g k a) ks) (inside_is k a) ∙ ap (λ b. list_all (below (k ∷ []) (a ∷ [])) threads && b) (all_inside a ks)
      ∙ sym (both_all (below (k ∷ []) (a ∷ [])) (below ks (a ∷ [])) threads)
      ∙ sym (five_same (below (k ∷ ks) (a ∷ [])) (λ t. below (k ∷ []) (a ∷ []) t && below ks (a ∷ []) t)
      (λ t l. ap (λ n. nat_le n (number g (a ∷ []) t)) (number_append g (k ∷ []) ks t (chains t l)) ∙ larger_below (number g (k ∷ []) t) (number g ks t) (number g (a ∷ []) t)))

  races_is : (ks : List ℕ) (a : ℕ) → races g ks a ≡ not (list_all (below ks (a ∷ [])) threads)
  unfolding races
  races_is ks a = none_outside (λ k. inside g k a) ks ∙ ap not (all_inside a ks)

module _ (R : ℕ → ℕ → ℕ → Type 0) (rising : IsRising R) (g h : Graph) where
  below_same : (t : ℕ) (ks ms ls ns : List ℕ) → SameAt R g h t ks ms → SameAt R g h t ls ns → nat_le (number g ks t) (number g ls t) ≡ nat_le (number h ms t) (number h ns t)
  below_same t ks ms ls ns s r = rising t (number g ks t) (number h ms t) (number g ls t) (number h ns t) s.pair r.pair

  all_below : (ks ms : List ℕ) (a b : ℕ) → SameFront R g h ks ms → SameFront R g h (a ∷ []) (b ∷ []) → list_all (λ t. nat_le (number g ks t) (number g (a ∷ []) t)) threads ≡ list_all (λ t. nat_le (number h ms t) (number h (b ∷ []) t)) threads
  all_below ks ms a b s e = five_same (λ t. nat_le (number g ks t) (number g (a ∷ []) t)) (λ t. nat_le (number h ms t) (number h (b ∷ []) t)) (λ t l. below_same t ks ms (a ∷ []) (b ∷ []) (s t l) (e t l))

  pub inside_same : (i k j m : ℕ) → SameFront R g h (i ∷ []) (j ∷ []) → SameFront R g h (k ∷ []) (m ∷ []) → inside g i k ≡ inside h j m
  inside_same i k j m a b = inside_is g (λ t l. (a t l).chain) i k ∙ all_below (i ∷ []) (j ∷ []) k m a b ∙ sym (inside_is h (λ t l. (a t l).chain_too) j m)

  pub races_same : (ks ms : List ℕ) (a b : ℕ) → SameFront R g h ks ms → SameFront R g h (a ∷ []) (b ∷ []) → races g ks a ≡ races h ms b
  races_same ks ms a b s e = races_is g (λ t l. (s t l).chain) ks a ∙ ap not (all_below ks ms a b s e) ∙ sym (races_is h (λ t l. (s t l).chain_too) ms b)

  version_below : (t k m i j : ℕ) → SameAt R g h t (k ∷ []) (m ∷ []) → SameAt R g h t (i ∷ []) (j ∷ []) → nat_le (version g k t) (version g i t) ≡ nat_le (version h m t) (version h j t)
  version_below t k m i j s e =
      ap (λ n. nat_le n (version g i t)) (sym (number_one g k t)) ∙ ap (nat_le (number g (k ∷ []) t)) (sym (number_one g i t))
      ∙ below_same t (k ∷ []) (m ∷ []) (i ∷ []) (j ∷ []) s e
      ∙ ap (λ n. nat_le n (number h (j ∷ []) t)) (number_one h m t) ∙ ap (nat_le (version h m t)) (number_one h j t)

  first_is : (f : Graph) (t k a : ℕ) → IsChain f (raised f t) → option_map_or (λ x. reaches f x a) (find (λ i. reaches f i k) (raised f t)) true ≡ nat_le (version f k t) (version f a t)
  unfolding version
  first_is f t k a c = first-counts (λ x. reaches f x k) (λ x. reaches f x a) (raised f t) (chain-downward f (raised f t) c k) (chain-downward f (raised f t) c a)

  pub touch_seen_same : (t : ℕ) (o u : Option ℕ) (a b : ℕ) → SameTouch R g h t o u → SameAt R g h t (a ∷ []) (b ∷ []) → is_touch_seen g t o a ≡ is_touch_seen h t u b
  touch_seen_same t None None a b no_touch e = refl
  touch_seen_same t None (Some m) a b x e = elim x [ ]
  touch_seen_same t (Some k) None a b x e = elim x [ ]
  touch_seen_same t (Some k) (Some m) a b (both_touch _ _ s) e = first_is g t k a s.chain ∙ version_below t k m a b s e ∙ sym (first_is h t m b s.chain_too)

  pub touch_before_same : (t : ℕ) (o u x y : Option ℕ) → SameTouch R g h t o u → SameTouch R g h t x y → is_touch_before g t o x ≡ is_touch_before h t u y
  touch_before_same t None None x y no_touch e = refl
  touch_before_same t None (Some m) x y s e = elim s [ ]
  touch_before_same t (Some k) None x y s e = elim s [ ]
  touch_before_same t (Some k) (Some m) None (Some j) s e = elim e [ ]
  touch_before_same t (Some k) (Some m) (Some i) None s e = elim e [ ]
  touch_before_same t (Some k) (Some m) None None (both_touch _ _ s) no_touch = refl
  touch_before_same t (Some k) (Some m) (Some i) (Some j) (both_touch _ _ s) (both_touch _ _ e) = version_below t k m i j s e
