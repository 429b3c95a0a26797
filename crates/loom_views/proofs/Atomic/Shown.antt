-- What is kept keeps showing the points when the graph grows, and the moves on an atomic.
use Rattle.std.proofs.Common.{zero, suc, ◌≡◌, ℕ, ◌%◌, ◌<◌, min, Bool, true, false, not, cond, ◌&&◌, List, [], ◌∷◌, ◌++◌, length, map, get_or, set, refl, ap, sym, ◌∙◌, arith, ⊎_elim, Option, Some, None}
use Rattle.std.specs.Prelude.{slice_index, slice_index_or, is_some}
use Rattle.std.specs.List.{filter, AllByRecursion, AllZip}
use Rattle.std.proofs.lemmas.Bool.{cases_Bool, cases_eq}
use Rattle.std.proofs.lemmas.List.{get_or-set_same, get_or-set_other, length-set, length-append}
use Rattle.std.specs.declared.sync.atomic.Ordering.{Ordering}
use Rattle.loom_views.specs.declared.rt.atomic.Store.{Store}
use Rattle.loom_views.specs.declared.rt.atomic.State.{State}
use Rattle.loom_views.specs.declared.rt.synchronize.ThreadViews.{ThreadViews}
use Rattle.loom_views.specs.Graph.{Point, Graph, threads, version, Shows, IsChained}
use Rattle.loom_views.specs.Atomic.Touches.{untouched}
use Rattle.loom_views.specs.Orderings.{is_release, is_seq_cst}
use Rattle.loom_views.specs.Versions.{join_all, zeros}
use Rattle.loom_views.specs.Atomic.Slots.{slots, is_left_out, number_in_slot}
use Rattle.loom_views.specs.ThreadViews.{ThreadPoints, ShowsTouch, ShowsThread, graph_after_store}
use Rattle.loom_views.specs.Atomic.History.{StorePoints, History, in_slot, touch_of, is_touch_seen, is_seen, is_order_seen_from, seen_orders, touch, graph_after_read, stores_after_read, graph_with_order, graph_with_start, graph_after_make, stores_after_make}
use Rattle.loom_views.specs.Atomic.Ring.{store_at, blank_store, is_version_seen, is_touch_in, is_order_seen, orders_seen, touch_version, store_read, vector_stored, store_made, state_made}
use Rattle.loom_views.specs.Atomic.Shown.{ShowsStore, ShowsState}
use Rattle.loom_views.proofs.Atomic.Loops.{all_upto, list_any-agree, filter-agree}
use Rattle.loom_views.proofs.Atomic.SlotNumbers.{in_slot-new, in_slot-old, in_slot-set_same, in_slot-set_other}
use Rattle.loom_views.proofs.Views.Counted.{counts-at}
use Rattle.loom_views.proofs.Views.Records.{record-old}
use Rattle.loom_views.proofs.Views.ThreadMoves.{touch-old, thread-old}
use Rattle.loom_views.proofs.Views.Views.{shows-old, shows-moved, shows-start, shows-copied, chained-moved, touch-seen}

pub store-old : (p : Point) (g : Graph) (points : StorePoints) (store : Store) → ShowsStore g points store → ShowsStore (p ∷ g) points store
store-old p g points store h = record {
  value = h.value;
  order = shows-old p g points.order store.order h.order;
  sync = shows-old p g points.sync store.sync h.sync;
  seq_cst = h.seq_cst;
  five = h.five;
  five_kept = h.five_kept;
  touched = λ t l. touch-old p g t (touch_of points t) (slice_index_or store.first_seen.versions t None) (h.touched t l);
}

pub state-old : (p : Point) (g : Graph) (h : History) (state : State) → ShowsState g h state → ShowsState (p ∷ g) h state
state-old p g h state s = record {
  count = s.count;
  ring = s.ring;
  stores = λ i a b. store-old p g (in_slot h.stores i) (store_at state.stores i) (s.stores i a b);
  loads = record-old p g h.loads state.loaded_at s.loads;
  stored = record-old p g h.stored state.stored_at s.stored;
  unsync_loads = record-old p g h.unsync_loads state.unsync_loaded_at s.unsync_loads;
  mutations = record-old p g h.mutations state.unsync_mut_at s.mutations;
  mutating = s.mutating;
}

touch-is : (g : Graph) (t a : ℕ) (o v : Option ℕ) (view : List ℕ) → IsChained g → t < 5 → Shows g a view → ShowsTouch g t o v → is_touch_seen g t o a ≡ is_version_seen v (get_or view t 0)
touch-is g t a None None view h l s z = refl
touch-is g t a None (Some n) view h l s z = absurd z
touch-is g t a (Some k) None view h l s z = absurd z
touch-is g t a (Some k) (Some n) view h l s z = touch-seen g t k a h ∙ rw (z.1, s.counted, counts-at g a t l) refl

-- a store is seen from a point just where a touch is in its view
pub seen-is : (g : Graph) (points : StorePoints) (store : Store) (a : ℕ) (view : List ℕ) → IsChained g → Shows g a view → ShowsStore g points store → is_seen g points a ≡ is_touch_in store.first_seen.versions view
unfolding is_seen
seen-is g points store a view h s z = list_any-agree (λ t. is_touch_seen g t (touch_of points t) a) (λ t. is_version_seen (slice_index_or store.first_seen.versions t None) (slice_index view t)) threads (at 0 (omega arith), (at 1 (omega arith), (at 2 (omega arith), (at 3 (omega arith), (at 4 (omega arith), tt)))))
  where
    at : (t : ℕ) → t < 5 → is_touch_seen g t (touch_of points t) a ≡ is_version_seen (slice_index_or store.first_seen.versions t None) (get_or view t 0)
    at t l = touch-is g t a (touch_of points t) (slice_index_or store.first_seen.versions t None) view h l s (z.touched t l)

-- what holds of each slot in use
pub all_slots : (P : ℕ → Type 0) (n : ℕ) → ((i : ℕ) → i < 7 → i < n → P i) → AllByRecursion P (slots n)
all_slots P n h = all_upto P (min n 7) (λ i l. h i (omega arith) (omega arith))

pub filtered : (P : ℕ → Type 0) (p : ℕ → Bool) (xs : List ℕ) → AllByRecursion P xs → AllByRecursion P (filter p xs)
filtered P p [] h = tt
filtered P p (x ∷ xs) h = ⊎_elim (λ e. rw e (h.0, filtered P p xs h.1)) (λ e. rw e (filtered P p xs h.1)) (cases_Bool (p x))

mapped : (g : Graph) (f : ℕ → ℕ) (f' : ℕ → List ℕ) (xs : List ℕ) → AllByRecursion (λ i. Shows g (f i) (f' i)) xs → AllZip (Shows g) (map f xs) (map f' xs)
mapped g f f' [] h = tt
mapped g f f' (x ∷ xs) h = (h.0, mapped g f f' xs h.1)

-- the orders that are seen are the same ones
pub orders-shown : (g : Graph) (h : History) (state : State) (a : ℕ) (view : List ℕ) (left_out : Option ℕ) → IsChained g → Shows g a view → ShowsState g h state → AllZip (Shows g) (seen_orders g h.stores a left_out) (orders_seen state.stores state.count view left_out)
orders-shown g h state a view left_out c s z =
    rw (← z.count, filter-agree (is_order_seen state.stores view left_out) (is_order_seen_from g h.stores a left_out) (slots (length h.stores)) (all_slots (λ i. is_order_seen state.stores view left_out i ≡ is_order_seen_from g h.stores a left_out i) (length h.stores) same))
    (mapped g (λ i. (in_slot h.stores i).order) (λ i. (store_at state.stores i).order) (filter (is_order_seen_from g h.stores a left_out) (slots (length h.stores)))
    (filtered (λ i. Shows g (in_slot h.stores i).order (store_at state.stores i).order) (is_order_seen_from g h.stores a left_out) (slots (length h.stores)) (all_slots (λ i. Shows g (in_slot h.stores i).order (store_at state.stores i).order) (length h.stores) (λ i b d. (z.stores i b d).order))))
  where
    same : (i : ℕ) → i < 7 → i < length h.stores → is_order_seen state.stores view left_out i ≡ is_order_seen_from g h.stores a left_out i
    same i b d = ap (λ t. not (is_left_out left_out i) && t) (sym (seen-is g (in_slot h.stores i) (store_at state.stores i) a view c s (z.stores i b d)))

-- a touch
is_touched-same : (g : Graph) (t : ℕ) (o v : Option ℕ) → ShowsTouch g t o v → is_some o ≡ is_some v
is_touched-same g t None None h = refl
is_touched-same g t None (Some n) h = absurd h
is_touched-same g t (Some k) None h = absurd h
is_touched-same g t (Some k) (Some n) h = refl

pub touch-shown : (g : Graph) (ts vs : List (Option ℕ)) (t a n u : ℕ) → length ts ≡ 5 → length vs ≡ 5 → t < 5 → u < 5 → a < length g → n ≡ version g a t → ((w : ℕ) → w < 5 → ShowsTouch g w (get_or ts w None) (get_or vs w None)) → ShowsTouch g u (get_or (touch ts t a) u None) (get_or (touch_version vs t n) u None)
touch-shown g ts vs t a n u e f l m b d h = ⊎_elim before first (cases_Bool (is_some (get_or ts t None)))
  where
    before : is_some (get_or ts t None) ≡ true → ShowsTouch g u (get_or (touch ts t a) u None) (get_or (touch_version vs t n) u None)
    before q = rw (q, sym (is_touched-same g t (get_or ts t None) (get_or vs t None) (h t l)) ∙ q) (h u m)

    set_shown : ShowsTouch g u (get_or (set ts t (Some a)) u None) (get_or (set vs t (Some n)) u None)
    set_shown = ⊎_elim (λ q. rw (q, get_or-set_same ts t (Some a) None (omega arith), get_or-set_same vs t (Some n) None (omega arith)) (b, d)) (λ q. rw (get_or-set_other ts t u (Some a) None q, get_or-set_other vs t u (Some n) None q) (h u m)) (cases_eq u t)

    first : is_some (get_or ts t None) ≡ false → ShowsTouch g u (get_or (touch ts t a) u None) (get_or (touch_version vs t n) u None)
    first q = rw (q, sym (is_touched-same g t (get_or ts t None) (get_or vs t None) (h t l)) ∙ q) set_shown

length-touch : (ts : List (Option ℕ)) (t a : ℕ) → length (touch ts t a) ≡ length ts
length-touch ts t a = ⊎_elim (λ q. rw q refl) (λ q. rw q (length-set ts t (Some a))) (cases_Bool (is_some (get_or ts t None)))

length-touch_version : (vs : List (Option ℕ)) (t n : ℕ) → length (touch_version vs t n) ≡ length vs
length-touch_version vs t n = ⊎_elim (λ q. rw q refl) (λ q. rw q (length-set vs t (Some n))) (cases_Bool (is_some (get_or vs t None)))

-- the vectors of a store that is read, in the graph after the read
pub store_read-shown : (g : Graph) (t : ℕ) (p : ThreadPoints) (views : ThreadViews) (h : History) (state : State) (slot : ℕ) → IsChained g → t < 5 → slot < 7 → slot < length h.stores → ShowsThread g t p views → ShowsState g h state → ShowsStore (graph_after_read g h.stores p.present slot) (record (in_slot h.stores slot) { order = length g; touched = touch (in_slot h.stores slot).touched t p.present }) (store_read state t views slot)
store_read-shown g t p views h state slot c l b d th z =
    let before : ShowsStore g (in_slot h.stores slot) (store_at state.stores slot) = z.stores slot b d in
    let new : Point = record { after = (in_slot h.stores slot).order ∷ seen_orders g h.stores p.present (Some slot); raises = None } in
    record {
      value = before.value;
      order = shows-moved g (in_slot h.stores slot).order (seen_orders g h.stores p.present (Some slot)) (store_at state.stores slot).order (orders_seen state.stores state.count views.present (Some slot)) c before.order (orders-shown g h state p.present views.present (Some slot) c th.present z);
      sync = shows-old new g (in_slot h.stores slot).sync (store_at state.stores slot).sync before.sync;
      seq_cst = before.seq_cst;
      five = length-touch (in_slot h.stores slot).touched t p.present ∙ before.five;
      five_kept = length-touch_version (store_at state.stores slot).first_seen.versions t (slice_index views.present t) ∙ before.five_kept;
      touched = λ u m. touch-old new g u (touch_of (record (in_slot h.stores slot) { order = length g; touched = touch (in_slot h.stores slot).touched t p.present }) u) (slice_index_or (touch_version (store_at state.stores slot).first_seen.versions t (slice_index views.present t)) u None)
          (touch-shown g (in_slot h.stores slot).touched (store_at state.stores slot).first_seen.versions t p.present (slice_index views.present t) u before.five before.five_kept l m th.present.made (own g t p.present views.present l th.present) before.touched);
    }
  where
    own : (g : Graph) (t k : ℕ) (vs : List ℕ) → t < 5 → Shows g k vs → get_or vs t 0 ≡ version g k t
    own g t k vs l s = ap (λ ws. get_or ws t 0) s.counted ∙ counts-at g k t l

-- reading a store, before the orders above it are raised
pub read-shown : (g : Graph) (t : ℕ) (p : ThreadPoints) (views : ThreadViews) (h : History) (state : State) (slot : ℕ) → IsChained g → t < 5 → slot < 7 → slot < length h.stores → ShowsThread g t p views → ShowsState g h state → ShowsState (graph_after_read g h.stores p.present slot) (record h { stores = stores_after_read g t h.stores p.present slot }) (record state { stores = set state.stores slot (store_read state t views slot) })
read-shown g t p views h state slot c l b d th z =
    let new : Point = record { after = (in_slot h.stores slot).order ∷ seen_orders g h.stores p.present (Some slot); raises = None } in
    let old : ShowsState (new ∷ g) h state = state-old new g h state z in
    record {
      count = length-set h.stores (number_in_slot (length h.stores) slot) _ ∙ z.count;
      ring = length-set state.stores slot _ ∙ z.ring;
      stores = λ i e f. at_slot i e (let q : i < length (stores_after_read g t h.stores p.present slot) = f in omega (arith, length-set h.stores (number_in_slot (length h.stores) slot) (record (in_slot h.stores slot) { order = length g; touched = touch (in_slot h.stores slot).touched t p.present }))) (old.stores i e);
      loads = old.loads;
      stored = old.stored;
      unsync_loads = old.unsync_loads;
      mutations = old.mutations;
      mutating = old.mutating;
    }
  where
    g' : Graph
    g' = graph_after_read g h.stores p.present slot

    st' : StorePoints
    st' = record (in_slot h.stores slot) { order = length g; touched = touch (in_slot h.stores slot).touched t p.present }

    at_slot : (i : ℕ) → i < 7 → i < length h.stores → (i < length h.stores → ShowsStore g' (in_slot h.stores i) (store_at state.stores i)) → ShowsStore g' (in_slot (set h.stores (number_in_slot (length h.stores) slot) st') i) (store_at (set state.stores slot (store_read state t views slot)) i)
    at_slot i e f o = ⊎_elim
        (λ q. rw (q, in_slot-set_same h.stores st' slot d, get_or-set_same state.stores slot (store_read state t views slot) blank_store (let r = z.ring in omega arith)) (store_read-shown g t p views h state slot c l b d th z))
        (λ q. rw (in_slot-set_other h.stores st' slot i b e q, get_or-set_other state.stores slot i (store_read state t views slot) blank_store q) (o f))
        (cases_eq i slot)

-- the view of an object that is stored to
pub stored-shown : (g : Graph) (t : ℕ) (p : ThreadPoints) (views : ThreadViews) (k : ℕ) (sync : List ℕ) (order : Ordering) → IsChained g → ShowsThread g t p views → Shows g k sync → Shows (graph_after_store g p k order) (length g) (vector_stored sync views order)
stored-shown g t p views k sync order c th s = ⊎_elim yes no (cases_Bool (is_release order))
  where
    yes : is_release order ≡ true → Shows (graph_after_store g p k order) (length g) (vector_stored sync views order)
    yes e = rw e (shows-moved g k (p.released ∷ p.present ∷ []) sync (views.released ∷ views.present ∷ []) c s (th.released, (th.present, tt)))

    no : is_release order ≡ false → Shows (graph_after_store g p k order) (length g) (vector_stored sync views order)
    no e = rw e (shows-moved g k (p.released ∷ []) sync (views.released ∷ []) c s (th.released, tt))

-- what a new store's synchronization starts with: nothing, or the view of the point that it copies
abbrev pub ShowsStart : Graph → Option ℕ → List ℕ → Type 0
ShowsStart g None view = view ≡ zeros
ShowsStart g (Some k) view = Shows g k view

start-shown : (g : Graph) (copied : Option ℕ) (sync : List ℕ) → IsChained g → ShowsStart g copied sync → Shows (graph_with_start g copied) (length g) sync
start-shown g None sync c s = rw s (shows-start g c)
start-shown g (Some k) sync c s = shows-copied g k sync c s

start-old : (g : Graph) (copied : Option ℕ) (k : ℕ) (vs : List ℕ) → Shows g k vs → Shows (graph_with_start g copied) k vs
start-old g None k vs s = shows-old (record { after = []; raises = None }) g k vs s
start-old g (Some j) k vs s = shows-old (record { after = j ∷ []; raises = None }) g k vs s

start-chained : (g : Graph) (copied : Option ℕ) → IsChained g → IsChained (graph_with_start g copied)
start-chained g None c = chained-moved g [] c
start-chained g (Some j) c = chained-moved g (j ∷ []) c

start-state : (g : Graph) (copied : Option ℕ) (h : History) (state : State) → ShowsState g h state → ShowsState (graph_with_start g copied) h state
start-state g None h state s = state-old (record { after = []; raises = None }) g h state s
start-state g (Some j) h state s = state-old (record { after = j ∷ []; raises = None }) g h state s

start-thread : (g : Graph) (copied : Option ℕ) (t : ℕ) (p : ThreadPoints) (views : ThreadViews) → ShowsThread g t p views → ShowsThread (graph_with_start g copied) t p views
start-thread g None t p views s = thread-old (record { after = []; raises = None }) g t p views s
start-thread g (Some j) t p views s = thread-old (record { after = j ∷ []; raises = None }) g t p views s

start-touch : (g : Graph) (copied : Option ℕ) (t : ℕ) (o v : Option ℕ) → ShowsTouch g t o v → ShowsTouch (graph_with_start g copied) t o v
start-touch g None t o v s = touch-old (record { after = []; raises = None }) g t o v s
start-touch g (Some j) t o v s = touch-old (record { after = j ∷ []; raises = None }) g t o v s

start-record : (g : Graph) (copied : Option ℕ) (k : ℕ) (vs : List ℕ) → ShowsStart g copied vs → (q : Point) → ShowsStart (q ∷ g) copied vs
start-record g None k vs s q = s
start-record g (Some j) k vs s q = shows-old q g j vs s

none_shown : (g : Graph) (w : ℕ) → w < 5 → ShowsTouch g w (get_or untouched w None) (get_or untouched w None)
none_shown g zero l = tt
none_shown g (suc zero) l = tt
none_shown g (suc (suc zero)) l = tt
none_shown g (suc (suc (suc zero))) l = tt
none_shown g (suc (suc (suc (suc zero)))) l = tt
none_shown g (suc (suc (suc (suc (suc w))))) l = absurd (omega arith)

own_version : (g : Graph) (t k : ℕ) (vs : List ℕ) → t < 5 → Shows g k vs → get_or vs t 0 ≡ version g k t
own_version g t k vs l s = ap (λ ws. get_or ws t 0) s.counted ∙ counts-at g k t l

-- the vectors of a new store, in the graph after it
store_made-shown : (g : Graph) (t : ℕ) (p : ThreadPoints) (views : ThreadViews) (h : History) (state : State) (sync : List ℕ) (value : ℕ) (copied : Option ℕ) (order : Ordering) → IsChained g → t < 5 → ShowsThread g t p views → ShowsState g h state → ShowsStart g copied sync
    → ShowsStore (graph_after_make g h.stores p copied order) (record { value = value; order = length g; sync = length (graph_with_start (graph_with_order g h.stores p) copied); seq_cst = is_seq_cst order; touched = touch untouched t p.present }) (store_made state t views sync value order)
store_made-shown g t p views h state sync value copied order c l th z s =
    let js : List ℕ = seen_orders g h.stores p.present None in
    let q1 : Point = record { after = p.present ∷ js; raises = None } in
    let g1 : Graph = graph_with_order g h.stores p in
    let g2 : Graph = graph_with_start g1 copied in
    let q3 : Point = record { after = length g1 ∷ p.released ∷ cond (is_release order) (p.present ∷ []) []; raises = None } in
    let c1 : IsChained g1 = chained-moved g (p.present ∷ js) c in
    let c2 : IsChained g2 = start-chained g1 copied c1 in
    let th2 : ShowsThread g2 t p views = start-thread g1 copied t p views (thread-old q1 g t p views th) in
    record {
      value = refl;
      order = shows-old q3 g2 (length g) (join_all views.present (orders_seen state.stores state.count views.present None)) (start-old g1 copied (length g) (join_all views.present (orders_seen state.stores state.count views.present None)) (shows-moved g p.present js views.present (orders_seen state.stores state.count views.present None) c th.present (orders-shown g h state p.present views.present None c th.present z)));
      sync = stored-shown g2 t p views (length g1) sync order c2 th2 (start-shown g1 copied sync c1 (start-record g copied 0 sync s q1));
      seq_cst = refl;
      five = length-touch untouched t p.present ∙ refl;
      five_kept = length-touch_version untouched t (slice_index views.present t) ∙ refl;
      touched = λ u m. touch-old q3 g2 u (get_or (touch untouched t p.present) u None) (get_or (touch_version untouched t (slice_index views.present t)) u None)
          (start-touch g1 copied u (get_or (touch untouched t p.present) u None) (get_or (touch_version untouched t (slice_index views.present t)) u None)
          (touch-old q1 g u (get_or (touch untouched t p.present) u None) (get_or (touch_version untouched t (slice_index views.present t)) u None)
          (touch-shown g untouched untouched t p.present (slice_index views.present t) u refl refl l m th.present.made (own_version g t p.present views.present l th.present) (none_shown g))));
    }

-- making a store
pub make-shown : (g : Graph) (t : ℕ) (p : ThreadPoints) (views : ThreadViews) (h : History) (state : State) (sync : List ℕ) (value : ℕ) (copied : Option ℕ) (order : Ordering) → IsChained g → t < 5 → ShowsThread g t p views → ShowsState g h state → ShowsStart g copied sync
    → ShowsState (graph_after_make g h.stores p copied order) (record h { stores = stores_after_make g t h.stores p value copied order }) (state_made state t views sync value order)
make-shown g t p views h state sync value copied order c l th z s =
    let q1 : Point = record { after = p.present ∷ seen_orders g h.stores p.present None; raises = None } in
    let g1 : Graph = graph_with_order g h.stores p in
    let g2 : Graph = graph_with_start g1 copied in
    let q3 : Point = record { after = length g1 ∷ p.released ∷ cond (is_release order) (p.present ∷ []) []; raises = None } in
    let old : ShowsState (graph_after_make g h.stores p copied order) h state = state-old q3 g2 h state (start-state g1 copied h state (state-old q1 g h state z)) in
    record {
      count = length-append h.stores (st' ∷ []) ∙ (let e = z.count in omega arith);
      ring = length-set state.stores (state.count % 7) (store_made state t views sync value order) ∙ z.ring;
      stores = λ i e f. at_slot i e (let q : i < length (h.stores ++ st' ∷ []) = f in omega (arith, length-append h.stores (st' ∷ []))) (old.stores i e);
      loads = old.loads;
      stored = old.stored;
      unsync_loads = old.unsync_loads;
      mutations = old.mutations;
      mutating = old.mutating;
    }
  where
    g' : Graph
    g' = graph_after_make g h.stores p copied order

    st' : StorePoints
    st' = record { value = value; order = length g; sync = length (graph_with_start (graph_with_order g h.stores p) copied); seq_cst = is_seq_cst order; touched = touch untouched t p.present }

    same_slot : state.count % 7 ≡ length h.stores % 7
    same_slot = ap (λ n. n % 7) (sym z.count)

    at_slot : (i : ℕ) → i < 7 → i < suc (length h.stores) → (i < length h.stores → ShowsStore g' (in_slot h.stores i) (store_at state.stores i)) → ShowsStore g' (in_slot (h.stores ++ st' ∷ []) i) (store_at (set state.stores (state.count % 7) (store_made state t views sync value order)) i)
    at_slot i e f o = ⊎_elim
        (λ q. rw (q, in_slot-new h.stores st', same_slot, get_or-set_same state.stores (length h.stores % 7) (store_made state t views sync value order) blank_store (let r = z.ring in omega arith)) (store_made-shown g t p views h state sync value copied order c l th z s))
        (λ q. rw (in_slot-old h.stores st' i e (omega arith) q, get_or-set_other state.stores (state.count % 7) i (store_made state t views sync value order) blank_store (λ r. q (r ∙ ap (λ n. n % 7) (sym z.count)))) (o (omega arith)))
        (cases_eq i (length h.stores % 7))
