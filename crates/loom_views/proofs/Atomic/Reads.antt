-- Reading a store, and raising the orders above it: in vectors as by points.
use Rattle.std.proofs.Common.{◌≡◌, ◌≢◌, ℕ, ◌+◌, ◌≤◌, ◌<◌, Bool, true, false, not, cond, ◌&&◌, List, [], ◌∷◌, ◌++◌, length, set, append-nil, refl, ap, sym, ◌∙◌, arith, ⊎_elim, subst, Some, None}
use Rattle.std.specs.Prelude.{◌==◌}
use Rattle.std.specs.List.{filter, AllByRecursion}
use Rattle.std.proofs.lemmas.Bool.{cases_Bool, cases_eq, and_parts, false≢true}
use Rattle.std.proofs.lemmas.Bool.Decides.{nat_tests}
use Rattle.std.proofs.lemmas.List.{get_or-set_same, get_or-set_other, length-set, set-get_or}
use Rattle.loom_views.specs.declared.rt.atomic.Store.{Store}
use Rattle.loom_views.specs.declared.rt.atomic.State.{State}
use Rattle.loom_views.specs.declared.rt.synchronize.ThreadViews.{ThreadViews}
use Rattle.loom_views.specs.Graph.{Point, Shows, moved}
use Rattle.loom_views.specs.Versions.{join, within}
use Rattle.loom_views.specs.Atomic.Slots.{upto, slots, number_in_slot}
use Rattle.loom_views.specs.Atomic.History.{StorePoints, Scene, in_slot, seen_orders, graph_after_read, stores_after_read, order_raised, orders_raised, is_order_above, slots_above, scene_ordered, scene_read}
use Rattle.loom_views.specs.Atomic.Ring.{store_at, blank_store, store_read, state_read, order_joined, orders_joined, is_slot_above, raised_above}
use Rattle.loom_views.specs.Atomic.Shown.{ShowsStore, ShowsScene}
use Rattle.loom_views.proofs.Atomic.Loops.{filter-agree, upto-push, all_upto}
use Rattle.std.proofs.lemmas.List.Elements.{filter-append}
use Rattle.loom_views.proofs.Atomic.SlotNumbers.{in_slot-set_same, in_slot-set_other}
use Rattle.loom_views.proofs.Atomic.Shown.{all_slots, filtered, store-old, state-old, read-shown, store_read-shown}
use Rattle.loom_views.proofs.Views.Counting.{all-weaker}
use Rattle.loom_views.proofs.Views.ThreadMoves.{thread-old}
use Rattle.loom_views.proofs.Views.Views.{shows-old, shows-joined, shows-inside, chained-moved, present-old}

-- a new point that raises nothing
pub scene_grown : (t : ℕ) (s : Scene) (views : ThreadViews) (state : State) (js : List ℕ) → ShowsScene t s views state → ShowsScene t (record s { graph = moved s.graph js }) views state
scene_grown t s views state js z = record {
  chained = chained-moved s.graph js z.chained;
  present = present-old (record { after = js; raises = None }) s.graph t s.thread.present refl z.present;
  thread = thread-old (record { after = js; raises = None }) s.graph t s.thread views z.thread;
  history = state-old (record { after = js; raises = None }) s.graph s.history state z.history;
}

-- the stores whose orders are joined stay as many, and one that isn't among them stays as it is
pub joined-length : (order : List ℕ) (stores : List Store) (is : List ℕ) → length (orders_joined order stores is) ≡ length stores
joined-length order stores [] = refl
joined-length order stores (i ∷ is) = joined-length order (order_joined order stores i) is ∙ length-set stores i (record (store_at stores i) { order = join (store_at stores i).order order })

pub joined-append : (order : List ℕ) (stores : List Store) (is : List ℕ) (i : ℕ) → orders_joined order stores (is ++ i ∷ []) ≡ order_joined order (orders_joined order stores is) i
joined-append order stores [] i = refl
joined-append order stores (j ∷ is) i = joined-append order (order_joined order stores j) is i

joined-other : (order : List ℕ) (stores : List Store) (is : List ℕ) (i : ℕ) → AllByRecursion (λ j. i ≢ j) is → store_at (orders_joined order stores is) i ≡ store_at stores i
joined-other order stores [] i h = refl
joined-other order stores (j ∷ is) i h = joined-other order (order_joined order stores j) is i h.1 ∙ get_or-set_other stores j i (record (store_at stores j) { order = join (store_at stores j).order order }) blank_store h.0

filter-passes : (p : ℕ → Bool) (xs : List ℕ) → AllByRecursion (λ x. p x ≡ true) (filter p xs)
filter-passes p [] = tt
filter-passes p (x ∷ xs) = ⊎_elim (λ e. rw e (e, filter-passes p xs)) (λ e. rw e (filter-passes p xs)) (cases_Bool (p x))

-- the stores beyond those that the loop has reached, and the one that is left out
pub joined-beyond : (order : List ℕ) (stores : List Store) (p : ℕ → Bool) (n i : ℕ) → n ≤ i → store_at (orders_joined order stores (filter p (upto n))) i ≡ store_at stores i
joined-beyond order stores p n i l = joined-other order stores (filter p (upto n)) i (filtered (λ j. i ≢ j) p (upto n) (all_upto (λ j. i ≢ j) n (λ j b e. omega arith)))

more-yes : (p : ℕ → Bool) (i : ℕ) → p i ≡ true → filter p (upto (i + 1)) ≡ filter p (upto i) ++ i ∷ []
more-yes p i e = ap (filter p) (upto-push i) ∙ filter-append p (upto i) (i ∷ []) ∙ ap (λ b. filter p (upto i) ++ cond b (i ∷ []) []) e

more-no : (p : ℕ → Bool) (i : ℕ) → p i ≡ false → filter p (upto (i + 1)) ≡ filter p (upto i)
more-no p i e = ap (filter p) (upto-push i) ∙ filter-append p (upto i) (i ∷ []) ∙ ap (λ b. filter p (upto i) ++ cond b (i ∷ []) []) e ∙ append-nil (filter p (upto i))

-- the loop reaches one more slot, whose store's order contains the read store's, or doesn't
module _ (order before : List ℕ) (stores now : List Store) (slot i : ℕ) (e : now ≡ orders_joined order stores (filter (is_slot_above before stores slot) (upto i))) where
  abbrev p : ℕ → Bool
  p = is_slot_above before stores slot

  same_test : is_slot_above before now slot i ≡ p i
  same_test = ap (λ (store : Store). not (i == slot) && within before store.order) (ap (λ (kept : List Store). store_at kept i) e ∙ joined-beyond order stores p i i (omega arith))

  pub raise-yes : is_slot_above before now slot i ≡ true → order_joined order now i ≡ orders_joined order stores (filter (is_slot_above before stores slot) (upto (i + 1)))
  raise-yes h = ap (λ (kept : List Store). order_joined order kept i) e ∙ sym (joined-append order stores (filter p (upto i)) i) ∙ ap (orders_joined order stores) (sym (more-yes p i (sym same_test ∙ h)))

  pub raise-no : is_slot_above before now slot i ≡ false → now ≡ orders_joined order stores (filter (is_slot_above before stores slot) (upto (i + 1)))
  raise-no h = e ∙ ap (orders_joined order stores) (sym (more-no p i (sym same_test ∙ h)))

  -- it takes in the order, if it does
  pub raise-if : (is_above : Bool) → is_above ≡ is_slot_above before now slot i
      → set now i (record (store_at now i) { order = cond is_above (join (store_at now i).order order) (store_at now i).order }) ≡ orders_joined order stores (filter (is_slot_above before stores slot) (upto (i + 1)))
  raise-if true h = raise-yes (sym h)
  raise-if false h = set-get_or now i blank_store ∙ raise-no (sym h)

pub slot-stays : (stores : List Store) (n slot : ℕ) (before order : List ℕ) → store_at (raised_above stores n slot before order) slot ≡ store_at stores slot
slot-stays stores n slot before order =
    joined-other order stores (filter (is_slot_above before stores slot) (slots n)) slot (all-weaker (λ j. is_slot_above before stores slot j ≡ true) (λ j. slot ≢ j) (filter (is_slot_above before stores slot) (slots n)) (λ j e f. differ j (and_parts (not (j == slot)) (within before (store_at stores j).order) e).0 f) (filter-passes (is_slot_above before stores slot) (slots n)))
  where
    differ : (j : ℕ) → not (j == slot) ≡ true → slot ≡ j → ⊥
    differ j e f = let same : (j == slot) ≡ true = grind (arith, nat_tests) in false≢true (subst (λ b. not b ≡ true) same e)

-- the store in a slot moves its order point after point k
order_raised-shown : (t : ℕ) (s : Scene) (views : ThreadViews) (state : State) (k i : ℕ) (order : List ℕ) → i < 7 → i < length s.history.stores → Shows s.graph k order → ShowsScene t s views state
    → ShowsScene t (scene_ordered s (order_raised k (record { graph = s.graph; stores = s.history.stores }) i)) views (record state { stores = order_joined order state.stores i })
order_raised-shown t s views state k i order b d q z =
    let grown = scene_grown t s views state ((in_slot s.history.stores i).order ∷ k ∷ []) z in
    record {
      chained = grown.chained;
      present = grown.present;
      thread = grown.thread;
      history = record {
        count = length-set s.history.stores (number_in_slot (length s.history.stores) i) points ∙ z.history.count;
        ring = length-set state.stores i kept ∙ z.history.ring;
        stores = λ j e f. at_slot j e (grown.history.stores j e (subst (λ n. j < n) (length-set s.history.stores (number_in_slot (length s.history.stores) i) points) f));
        loads = grown.history.loads;
        stored = grown.history.stored;
        unsync_loads = grown.history.unsync_loads;
        mutations = grown.history.mutations;
        mutating = grown.history.mutating;
      };
    }
  where
    new : Point
    new = record { after = (in_slot s.history.stores i).order ∷ k ∷ []; raises = None }

    points : StorePoints
    points = record (in_slot s.history.stores i) { order = length s.graph }

    kept : Store
    kept = record (store_at state.stores i) { order = join (store_at state.stores i).order order }

    shown : ShowsStore (new ∷ s.graph) points kept
    shown =
        let before = z.history.stores i b d in
        let old = store-old new s.graph (in_slot s.history.stores i) (store_at state.stores i) before in
        record {
          value = old.value;
          order = shows-joined s.graph (in_slot s.history.stores i).order k (store_at state.stores i).order order z.chained before.order q;
          sync = old.sync;
          seq_cst = old.seq_cst;
          five = old.five;
          five_kept = old.five_kept;
          touched = old.touched;
        }

    at_slot : (j : ℕ) → j < 7 → ShowsStore (new ∷ s.graph) (in_slot s.history.stores j) (store_at state.stores j) → ShowsStore (new ∷ s.graph) (in_slot (set s.history.stores (number_in_slot (length s.history.stores) i) points) j) (store_at (set state.stores i kept) j)
    at_slot j e o = ⊎_elim
        (λ q. rw (q, in_slot-set_same s.history.stores points i d, get_or-set_same state.stores i kept blank_store (let r = z.history.ring in omega arith)) shown)
        (λ q. rw (in_slot-set_other s.history.stores points i j b e q, get_or-set_other state.stores i j kept blank_store q) o)
        (cases_eq j i)

-- those in several slots do, one after another
orders_raised-shown : (t : ℕ) (s : Scene) (views : ThreadViews) (state : State) (k : ℕ) (order : List ℕ) (is : List ℕ) → AllByRecursion (λ i. (i < 7) × (i < length s.history.stores)) is → Shows s.graph k order → ShowsScene t s views state
    → ShowsScene t (scene_ordered s (orders_raised k (record { graph = s.graph; stores = s.history.stores }) is)) views (record state { stores = orders_joined order state.stores is })
orders_raised-shown t s views state k order [] h q z = z
orders_raised-shown t s views state k order (i ∷ is) h q z =
    let points : StorePoints = record (in_slot s.history.stores i) { order = length s.graph } in
    let same_length : length (set s.history.stores (number_in_slot (length s.history.stores) i) points) ≡ length s.history.stores = length-set s.history.stores (number_in_slot (length s.history.stores) i) points in
    let next : Scene = scene_ordered s (order_raised k (record { graph = s.graph; stores = s.history.stores }) i) in
    orders_raised-shown t next views (record state { stores = order_joined order state.stores i }) k order is
    (subst (λ n. AllByRecursion (λ j. (j < 7) × (j < n)) is) (sym same_length) h.1)
    (shows-old (record { after = (in_slot s.history.stores i).order ∷ k ∷ []; raises = None }) s.graph k order q)
    (order_raised-shown t s views state k i order h.0.0 h.0.1 q z)

-- reading a store, and raising the orders above it
pub scene_read-shown : (t : ℕ) (s : Scene) (views : ThreadViews) (state : State) (slot : ℕ) → t < 5 → slot < 7 → slot < length s.history.stores → ShowsScene t s views state → ShowsScene t (scene_read t s slot) views (state_read state t views slot)
scene_read-shown t s views state slot l b d z =
    rw same_slots (orders_raised-shown t alone views (record state { stores = set state.stores slot read }) (length s.graph) read.order (slots_above s.graph s.history.stores slot)
    (filtered (λ i. (i < 7) × (i < length alone.history.stores)) (is_order_above s.graph s.history.stores slot) (slots (length s.history.stores)) (all_slots (λ i. (i < 7) × (i < length alone.history.stores)) (length s.history.stores) (λ i e f. (e, subst (λ n. i < n) (sym as_long) f))))
    (store_read-shown s.graph t s.thread views s.history state slot z.chained l b d z.thread z.history).order
    shown)
  where
    read : Store
    read = store_read state t views slot

    alone : Scene
    alone = scene_ordered s (record { graph = graph_after_read s.graph s.history.stores s.thread.present slot; stores = stores_after_read s.graph t s.history.stores s.thread.present slot })

    as_long : length alone.history.stores ≡ length s.history.stores
    as_long = length-set s.history.stores (number_in_slot (length s.history.stores) slot) _

    shown : ShowsScene t alone views (record state { stores = set state.stores slot read })
    shown =
        let grown = scene_grown t s views state ((in_slot s.history.stores slot).order ∷ seen_orders s.graph s.history.stores s.thread.present (Some slot)) z in
        record {
          chained = grown.chained;
          present = grown.present;
          thread = grown.thread;
          history = read-shown s.graph t s.thread views s.history state slot z.chained l b d z.thread z.history;
        }

    same_slot : (i : ℕ) → i < 7 → i < length s.history.stores → is_slot_above (store_at state.stores slot).order (set state.stores slot read) slot i ≡ is_order_above s.graph s.history.stores slot i
    same_slot i e f = ⊎_elim
        (λ q. let one : (i == slot) ≡ true = grind (arith, nat_tests) in rw one refl)
        (λ q. ap (λ (store : Store). not (i == slot) && within (store_at state.stores slot).order store.order) (get_or-set_other state.stores slot i read blank_store q)
        ∙ ap (λ x. not (i == slot) && x) (shows-inside s.graph (in_slot s.history.stores slot).order (in_slot s.history.stores i).order (store_at state.stores slot).order (store_at state.stores i).order z.chained (z.history.stores slot b d).order (z.history.stores i e f).order))
        (cases_eq i slot)

    same_slots : filter (is_slot_above (store_at state.stores slot).order (set state.stores slot read) slot) (slots state.count) ≡ slots_above s.graph s.history.stores slot
    same_slots = ap (λ n. filter (is_slot_above (store_at state.stores slot).order (set state.stores slot read) slot) (slots n)) (sym z.history.count)
        ∙ filter-agree (is_slot_above (store_at state.stores slot).order (set state.stores slot read) slot) (is_order_above s.graph s.history.stores slot) (slots (length s.history.stores)) (all_slots (λ i. is_slot_above (store_at state.stores slot).order (set state.stores slot read) slot i ≡ is_order_above s.graph s.history.stores slot i) (length s.history.stores) same_slot)
