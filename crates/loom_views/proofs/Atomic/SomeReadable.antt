-- A reader always has a slot to choose.
use Rattle.std.proofs.Common.{zero, suc, subst, ◌≡◌, ◌≢◌, ℕ, ◌<◌, min, Bool, true, false, not, cond, ◌&&◌, List, [], ◌∷◌, ◌++◌, length, refl, ap, sym, ◌∙◌, arith, ⊎_elim}
use Rattle.std.specs.List.{list_any, filter, AllByRecursion}
use Rattle.std.proofs.lemmas.Bool.{cases_Bool, and_parts, and_from, or_from, true≢false, false_from_ne_true, not-true, not_from_false}
use Rattle.loom_views.specs.declared.rt.atomic.reader.Reader.{Reader}
use Rattle.loom_views.specs.declared.rt.atomic.reader.Reader.TheVariants.{Load, Update}
use Rattle.loom_views.specs.Graph.{Graph, inside}
use Rattle.loom_views.specs.Atomic.Slots.{upto, slots}
use Rattle.loom_views.specs.ThreadViews.{ThreadPoints}
use Rattle.loom_views.specs.Atomic.History.{StorePoints, in_slot, is_below, drops, drops_in_slot, readable}
use Rattle.loom_views.proofs.Atomic.Orders.Points.{inside-from, inside-gives}
use Rattle.loom_views.proofs.Views.Counting.{all-weaker}

data Among : ℕ → List ℕ → Type 0 where
  here : {x : ℕ} {xs : List ℕ} → Among x (x ∷ xs)
  later : {x y : ℕ} {xs : List ℕ} → Among x xs → Among x (y ∷ xs)

-- an element that no element is above, in a strict order
module _ (above : ℕ → ℕ → Bool) (irreflexive : (i : ℕ) → above i i ≡ false) (transitive : (i j k : ℕ) → above i j ≡ true → above j k ≡ true → above i k ≡ true) where
  top : (x : ℕ) (xs : List ℕ) → (m : ℕ) × Among m (x ∷ xs) × AllByRecursion (λ j. above m j ≡ false) (x ∷ xs)
  top x [] = (x, here, (irreflexive x, tt))
  top x (y ∷ ys) = step x y ys (top x ys)
    where
      step : (x y : ℕ) (ys : List ℕ) → (m : ℕ) × Among m (x ∷ ys) × AllByRecursion (λ j. above m j ≡ false) (x ∷ ys) → (m : ℕ) × Among m (x ∷ y ∷ ys) × AllByRecursion (λ j. above m j ≡ false) (x ∷ y ∷ ys)
      step x y ys r = ⊎_elim
          (λ e. (y, later here, (below_m x y r.0 e r.2.0, (irreflexive y, all-weaker (λ j. above r.0 j ≡ false) (λ j. above y j ≡ false) ys (λ j f. below_m j y r.0 e f) r.2.1))))
          (λ e. (r.0, moved_on r.0 r.1, (r.2.0, (e, r.2.1))))
          (cases_Bool (above r.0 y))
        where
          below_m : (j y m : ℕ) → above m y ≡ true → above m j ≡ false → above y j ≡ false
          below_m j y m e f = false_from_ne_true (above y j) (λ h. true≢false (sym (transitive m y j e h) ∙ f))

          moved_on : (m : ℕ) → Among m (x ∷ ys) → Among m (x ∷ y ∷ ys)
          moved_on m here = here
          moved_on m (later a) = later (later a)

none-passes : (p : ℕ → Bool) (xs : List ℕ) → AllByRecursion (λ x. p x ≡ false) xs → list_any p xs ≡ false
none-passes p [] h = refl
none-passes p (x ∷ xs) h = or_from (p x) (list_any p xs) h.0 (none-passes p xs h.1)

kept-passes : (p : ℕ → Bool) (xs : List ℕ) (m : ℕ) → Among m xs → p m ≡ true → filter p xs ≢ []
kept-passes p [] m a e = elim a [ ]
kept-passes p (x ∷ xs) m here e = λ f. nonempty (sym (ap (λ b. cond b (x ∷ filter p xs) (filter p xs)) e) ∙ f)
  where
    nonempty : x ∷ filter p xs ≡ [] → ⊥
    nonempty g = cc
kept-passes p (x ∷ xs) m (later a) e = λ f. ⊎_elim (λ q. nonempty (sym (ap (λ b. cond b (x ∷ filter p xs) (filter p xs)) q) ∙ f)) (λ q. kept-passes p xs m a e (sym (ap (λ b. cond b (x ∷ filter p xs) (filter p xs)) q) ∙ f)) (cases_Bool (p x))
  where
    nonempty : x ∷ filter p xs ≡ [] → ⊥
    nonempty g = cc

inside-transitive : (g : Graph) (i j k : ℕ) → inside g i j ≡ true → inside g j k ≡ true → inside g i k ≡ true
inside-transitive g i j k a b = inside-from g i k (λ x r h. inside-gives g j k x b r (inside-gives g i j x a r h))

below-irreflexive : (g : Graph) (i : StorePoints) → is_below g i i ≡ false
unfolding is_below
below-irreflexive g i = strict (inside g i.order i.order)
  where
    strict : (b : Bool) → (b && not b) ≡ false
    strict true = refl
    strict false = refl

below-transitive : (g : Graph) (i j k : StorePoints) → is_below g i j ≡ true → is_below g j k ≡ true → is_below g i k ≡ true
unfolding is_below
below-transitive g i j k a b =
    let p = and_parts (inside g i.order j.order) (not (inside g j.order i.order)) a in
    let q = and_parts (inside g j.order k.order) (not (inside g k.order j.order)) b in
    and_from (inside g i.order k.order) (not (inside g k.order i.order)) (inside-transitive g i.order j.order k.order p.0 q.0)
    (not_from_false (inside g k.order i.order) (false_from_ne_true (inside g k.order i.order) (λ h. true≢false (sym (inside-transitive g k.order i.order j.order h p.0) ∙ not-true (inside g k.order j.order) q.1))))

drops-below : (g : Graph) (t : ℕ) (p : ThreadPoints) (reader : Reader) (i j : StorePoints) → drops g t p reader i j ≡ true → is_below g i j ≡ true
unfolding drops
drops-below g t p Update i j e = e
drops-below g t p (Load order) i j e = (and_parts (is_below g i j) _ e).0

slots-some : (n : ℕ) → 0 < n → (x : ℕ) × (xs : List ℕ) × (slots n ≡ x ∷ xs)
slots-some n h = some (min n 7) (omega arith)
  where
    some : (m : ℕ) → 0 < m → (x : ℕ) × (xs : List ℕ) × (upto m ≡ x ∷ xs)
    some zero l = absurd (omega arith)
    some (suc m) l = pushed (upto m) m
      where
        pushed : (ys : List ℕ) (y : ℕ) → (x : ℕ) × (xs : List ℕ) × (ys ++ y ∷ [] ≡ x ∷ xs)
        pushed [] y = (y, [], refl)
        pushed (z ∷ zs) y = (z, zs ++ y ∷ [], refl)

pub some-readable : (g : Graph) (t : ℕ) (p : ThreadPoints) (reader : Reader) (stores : List StorePoints) → 0 < length stores → readable g t p reader stores ≢ []
some-readable g t p reader stores h =
    let n = length stores in
    let s = slots-some n h in
    let above : ℕ → ℕ → Bool = λ i j. is_below g (in_slot stores i) (in_slot stores j) in
    let m = top above (λ i. below-irreflexive g (in_slot stores i)) (λ i j k. below-transitive g (in_slot stores i) (in_slot stores j) (in_slot stores k)) s.0 s.1 in
    let undropped : AllByRecursion (λ j. drops_in_slot g t p reader stores m.0 j ≡ false) (s.0 ∷ s.1) = all-weaker (λ j. is_below g (in_slot stores m.0) (in_slot stores j) ≡ false) (λ j. drops_in_slot g t p reader stores m.0 j ≡ false) (s.0 ∷ s.1) (λ j f. false_from_ne_true (drops_in_slot g t p reader stores m.0 j) (λ e. true≢false (sym (drops-below g t p reader (in_slot stores m.0) (in_slot stores j) e) ∙ f))) m.2 in
    let passes : not (list_any (drops_in_slot g t p reader stores m.0) (slots n)) ≡ true = not_from_false (list_any (drops_in_slot g t p reader stores m.0) (slots n)) (ap (list_any (drops_in_slot g t p reader stores m.0)) s.2 ∙ none-passes (drops_in_slot g t p reader stores m.0) (s.0 ∷ s.1) undropped) in
    kept-passes (λ i. not (list_any (drops_in_slot g t p reader stores i) (slots n))) (slots n) m.0 (subst (λ xs. Among m.0 xs) (sym s.2) m.1) passes
