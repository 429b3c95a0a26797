-- Which slots a reader may choose, in vectors and by points.
use Rattle.std.proofs.Common.{subst, ◌≡◌, ℕ, ◌<◌, min, Bool, not, ◌&&◌, List, [], ◌∷◌, length, refl, ap, sym, ◌∙◌, arith, ⊎_elim, Option, Some, None, Result, Ok, Err}
use Rattle.std.specs.Prelude.{◌==◌, slice_index_or, MatchResult}
use Rattle.std.specs.List.{list_any, filter, AllByRecursion}
use Rattle.std.proofs.lemmas.Bool.{cases_Bool}
use Rattle.loom_views.specs.declared.rt.failure.FailureKind.{FailureKind}
use Rattle.loom_views.specs.declared.rt.atomic.reader.Reader.{Reader}
use Rattle.loom_views.specs.declared.rt.atomic.reader.Reader.TheVariants.{Load, Update}
use Rattle.loom_views.specs.declared.rt.atomic.Store.{Store}
use Rattle.loom_views.specs.declared.rt.atomic.State.{State}
use Rattle.loom_views.specs.declared.rt.synchronize.ThreadViews.{ThreadViews}
use Rattle.loom_views.specs.Graph.{Graph, IsChained}
use Rattle.loom_views.specs.Atomic.Slots.{upto, slots, readable_slots, has_order_of, has_equal_order_at, has_equal_orders}
use Rattle.loom_views.specs.ThreadViews.{ThreadPoints, ShowsTouch, ShowsThread}
use Rattle.loom_views.specs.Atomic.History.{StorePoints, Scene, Answer, in_slot, touch_of, is_touch_before, is_below, has_same_order, drops, drops_in_slot, has_same_order_in_slot, readable, fails_by_orders}
use Rattle.loom_views.specs.Atomic.Ring.{store_at, is_version_before, is_order_below, is_order_same, is_same_slot, drops_store, drops_slot}
use Rattle.loom_views.specs.Atomic.Shown.{ShowsStore, ShowsScene, AnswersAs, FinishesAs}
use Rattle.loom_views.proofs.Views.Views.{shows-inside}
use Rattle.loom_views.proofs.Atomic.Loops.{all_upto, list_any-agree, filter-agree}
use Rattle.loom_views.proofs.Atomic.Shown.{seen-is}
use Rattle.loom_views.proofs.Atomic.Accesses.{Agrees}
use Rattle.loom_views.proofs.Atomic.Vectors.{Accessed}

-- orders are compared as the views of their points are
pub below-is : (g : Graph) (i j : StorePoints) (i' j' : Store) → IsChained g → ShowsStore g i i' → ShowsStore g j j' → is_order_below i' j' ≡ is_below g i j
unfolding is_below
below-is g i j i' j' c a b = rw (shows-inside g i.order j.order i'.order j'.order c a.order b.order, shows-inside g j.order i.order j'.order i'.order c b.order a.order) refl

pub same-is : (g : Graph) (i j : StorePoints) (i' j' : Store) → IsChained g → ShowsStore g i i' → ShowsStore g j j' → is_order_same i' j' ≡ has_same_order g i j
unfolding has_same_order
same-is g i j i' j' c a b = rw (shows-inside g i.order j.order i'.order j'.order c a.order b.order, shows-inside g j.order i.order j'.order i'.order c b.order a.order) refl

before-is : (g : Graph) (t : ℕ) (o y v w : Option ℕ) → ShowsTouch g t o v → ShowsTouch g t y w → is_version_before v w ≡ is_touch_before g t o y
before-is g t None y None w a b = refl
before-is g t None y (Some n) w a b = absurd a
before-is g t (Some k) y None w a b = absurd a
before-is g t (Some k) None (Some n) None a b = refl
before-is g t (Some k) None (Some n) (Some m) a b = absurd b
before-is g t (Some k) (Some j) (Some n) None a b = absurd b
before-is g t (Some k) (Some j) (Some n) (Some m) a b = rw (a.1, b.1) refl

pub drops-is : (g : Graph) (t : ℕ) (p : ThreadPoints) (views : ThreadViews) (reader : Reader) (i j : StorePoints) (i' j' : Store) → IsChained g → t < 5 → ShowsThread g t p views → ShowsStore g i i' → ShowsStore g j j' → drops_store t views reader i' j' ≡ drops g t p reader i j
unfolding drops
drops-is g t p views Update i j i' j' c l th a b = below-is g i j i' j' c a b
drops-is g t p views (Load order) i j i' j' c l th a b =
    rw (below-is g i j i' j' c a b, sym (seen-is g j j' p.present views.present c th.present b), before-is g t (touch_of i t) p.yielded (slice_index_or i'.first_seen.versions t None) views.last_yield (a.touched t l) th.yielded, sym a.seq_cst, sym b.seq_cst) refl

-- ---- the slots of which a reader chooses

-- those that it may choose, in rising order
abbrev pub readable_now : State → ℕ → ThreadViews → Reader → List ℕ
readable_now state t views reader = readable_slots (drops_slot state t views reader) state.count

-- the choice fails, since two orders are equal on the way
abbrev pub fails_now : State → ℕ → ThreadViews → Reader → Bool
fails_now state t views reader = has_equal_orders (is_same_slot state) (drops_slot state t views reader) state.count

-- choices by tests that agree on the slots in use
all_slots : (P : ℕ → Type 0) (n : ℕ) → ((i : ℕ) → i < 7 → i < n → P i) → AllByRecursion P (slots n)
all_slots P n h = all_upto P (min n 7) (λ i l. h i (omega arith) (omega arith))

pub readable-agree : (d e : ℕ → ℕ → Bool) (n : ℕ) → ((i j : ℕ) → i < 7 → i < n → j < 7 → j < n → d i j ≡ e i j) → readable_slots d n ≡ readable_slots e n
readable-agree d e n h = filter-agree (λ i. not (list_any (d i) (slots n))) (λ i. not (list_any (e i) (slots n))) (slots n) (all_slots (λ i. not (list_any (d i) (slots n)) ≡ not (list_any (e i) (slots n))) n (λ i a b. ap not (list_any-agree (d i) (e i) (slots n) (all_slots (λ j. d i j ≡ e i j) n (λ j a' b'. h i j a b a' b')))))

pub orders-agree : (f k d e : ℕ → ℕ → Bool) (n : ℕ) → ((i j : ℕ) → i < 7 → i < n → j < 7 → j < n → f i j ≡ k i j) → ((i j : ℕ) → i < 7 → i < n → j < 7 → j < n → d i j ≡ e i j) → has_equal_orders f d n ≡ has_equal_orders k e n
orders-agree f k d e n s h = list_any-agree (has_equal_order_at f d n) (has_equal_order_at k e n) (slots n) (all_slots (λ i. has_equal_order_at f d n i ≡ has_equal_order_at k e n i) n at)
  where
    of : (i j : ℕ) → i < 7 → i < n → j < 7 → j < n → has_order_of f d i j ≡ has_order_of k e i j
    of i j a b a' b' = ap (λ x. (not (i == j) && x) && not (list_any (d i) (upto j))) (s i j a b a' b') ∙ ap (λ x. (not (i == j) && k i j) && not x) (list_any-agree (d i) (e i) (upto j) (all_upto (λ m. d i m ≡ e i m) j (λ m l. h i m a b (omega arith) (omega arith))))

    at : (i : ℕ) → i < 7 → i < n → has_equal_order_at f d n i ≡ has_equal_order_at k e n i
    at i a b = list_any-agree (has_order_of f d i) (has_order_of k e i) (slots n) (all_slots (λ j. has_order_of f d i j ≡ has_order_of k e i j) n (λ j a' b'. of i j a b a' b'))

module _ (t : ℕ) (s : Scene) (views : ThreadViews) (state : State) (reader : Reader) (l : t < 5) (z : ShowsScene t s views state) where
  drops-same : (i j : ℕ) → i < 7 → i < length s.history.stores → j < 7 → j < length s.history.stores → drops_slot state t views reader i j ≡ drops_in_slot s.graph t s.thread reader s.history.stores i j
  drops-same i j a b a' b' = drops-is s.graph t s.thread views reader (in_slot s.history.stores i) (in_slot s.history.stores j) (store_at state.stores i) (store_at state.stores j) z.chained l z.thread (z.history.stores i a b) (z.history.stores j a' b')

  orders-same : (i j : ℕ) → i < 7 → i < length s.history.stores → j < 7 → j < length s.history.stores → is_same_slot state i j ≡ has_same_order_in_slot s.graph s.history.stores i j
  orders-same i j a b a' b' = same-is s.graph (in_slot s.history.stores i) (in_slot s.history.stores j) (store_at state.stores i) (store_at state.stores j) z.chained (z.history.stores i a b) (z.history.stores j a' b')

  pub readable-is : readable_now state t views reader ≡ readable s.graph t s.thread reader s.history.stores
  readable-is = ap (readable_slots (drops_slot state t views reader)) (sym z.history.count) ∙ readable-agree (drops_slot state t views reader) (drops_in_slot s.graph t s.thread reader s.history.stores) (length s.history.stores) drops-same

  pub fails-is : fails_now state t views reader ≡ fails_by_orders s.graph t s.thread reader s.history.stores
  fails-is = ap (has_equal_orders (is_same_slot state) (drops_slot state t views reader)) (sym z.history.count) ∙ orders-agree (is_same_slot state) (has_same_order_in_slot s.graph s.history.stores) (drops_slot state t views reader) (drops_in_slot s.graph t s.thread reader s.history.stores) (length s.history.stores) orders-same drops-same

-- what a call answers, from what agrees
pub answers-from : (t : ℕ) (step : Result Answer FailureKind) (now : Result Accessed FailureKind) (result : Result ℕ FailureKind) (views : ThreadViews) (state : State) → Agrees t step now → MatchResult result (λ value. now ≡ Ok (record { state = state; views = views; value = value })) (λ kind. now ≡ Err kind) → AnswersAs t step result views state
answers-from t (Ok answer) now (Ok value) views state a e = let b : Agrees t (Ok answer) (Ok (record { state = state; views = views; value = value })) = subst (Agrees t (Ok answer)) e a in (ap Ok (sym b.0), b.1)
answers-from t (Ok answer) now (Err kind) views state a e = absurd (subst (Agrees t (Ok answer)) e a)
answers-from t (Err kind) now (Ok value) views state a e = absurd (subst (Agrees t (Err kind)) e a)
answers-from t (Err kind) now (Err found) views state a e = ap Err (subst (Agrees t (Err kind)) e a)

pub finishes-from : (t : ℕ) (step : Result Answer FailureKind) (now : Result Accessed FailureKind) (result : Result (Unit {0}) FailureKind) (views : ThreadViews) (state : State) (value : ℕ) → Agrees t step now → MatchResult result (λ _. now ≡ Ok (record { state = state; views = views; value = value })) (λ kind. now ≡ Err kind) → FinishesAs t step result views state
finishes-from t (Ok answer) now (Ok u) views state value a e = let b : Agrees t (Ok answer) (Ok (record { state = state; views = views; value = value })) = subst (Agrees t (Ok answer)) e a in (refl, b.1)
finishes-from t (Ok answer) now (Err kind) views state value a e = absurd (subst (Agrees t (Ok answer)) e a)
finishes-from t (Err kind) now (Ok u) views state value a e = absurd (subst (Agrees t (Err kind)) e a)
finishes-from t (Err kind) now (Err found) views state value a e = ap Err (subst (Agrees t (Err kind)) e a)

kept-each : (P : ℕ → Type 0) (p : ℕ → Bool) (xs : List ℕ) → AllByRecursion P xs → AllByRecursion P (filter p xs)
kept-each P p [] h = tt
kept-each P p (x ∷ xs) h = ⊎_elim (λ e. rw e (h.0, kept-each P p xs h.1)) (λ e. rw e (kept-each P p xs h.1)) (cases_Bool (p x))

-- each slot that may be chosen is in use
pub readable-bounds : (d : ℕ → ℕ → Bool) (n : ℕ) → AllByRecursion (λ i. (i < 7) × (i < n)) (readable_slots d n)
readable-bounds d n = kept-each (λ i. (i < 7) × (i < n)) (λ i. not (list_any (d i) (slots n))) (slots n) (all_slots (λ i. (i < 7) × (i < n)) n (λ i a b. (a, b)))
