-- Each move of a run leaves what a thread has raised before its present point, and each atomic with a store and each thread's touch of it.
use Rattle.std.proofs.Common.{zero, suc, ◌≡◌, ◌≢◌, ℕ, ◌-◌, ◌<◌, ◌≤◌, Bool, true, false, List, [], ◌∷◌, ◌++◌, length, get_or, set, refl, sym, ◌∙◌, subst, arith, ⊎_elim, leb-false, length-append, Option, Some, None, Result, Ok, Err}
use Rattle.std.specs.Prelude.{IfOk, is_some, nat_lt, nat_le, if◌then◌else◌, slice_index_or, slice_set}
use Rattle.std.specs.List.{AllByRecursion, slice_get, flat_map}
use Rattle.std.specs.declared.sync.atomic.Ordering.{Ordering}
use Rattle.std.specs.declared.sync.atomic.Ordering.TheVariants.{Relaxed, Release, Acquire, AcqRel, SeqCst}
use Rattle.std.proofs.lemmas.Bool.{cases_Bool, cases_eq, eq-eqb, ne_eqb}
use Rattle.std.proofs.lemmas.List.{length-set}
use Rattle.std.proofs.lemmas.Option.{slice_get_past, slice_get_within}
use Rattle.loom_views.specs.declared.rt.failure.FailureKind.{FailureKind}
use Rattle.loom_views.specs.declared.rt.failure.FailureKind.TheVariants.{TooManyThreads, TooManyVersions}
use Rattle.loom_views.specs.Graph.{Graph, IsPresent, moved, moved_raising, raised}
use Rattle.loom_views.specs.Orderings.{is_acquire}
use Rattle.loom_views.specs.ThreadViews.{ThreadPoints, with_present, graph_after_raise, graph_after_acquire, graph_after_release_fence, graph_after_store, graph_after_spawn, graph_with_child, child_points, parent_points}
use Rattle.loom_views.specs.Atomic.Fences.{Standing, after_store, after_stores}
use Rattle.loom_views.specs.Atomic.History.{History, Ordered, Scene, StorePoints, blank, graph_after_read, in_slot, is_seen, load_step, mutate_end_step, mutate_step, new_history, new_step, order_raised, orders_raised, scene_loaded, scene_made, scene_read, scene_recorded_load, scene_recorded_store, slots_above, store_step, stores_after_read, touch, unsync_load_step, update_read_step, update_write_step, with_newest}
use Rattle.loom_views.specs.Atomic.Slots.{number_in_slot}
use Rattle.loom_views.specs.Atomic.Touches.{untouched}
use Rattle.loom_views.specs.CellAccesses.{Accesses, read_step, write_step}
use Rattle.loom_views.specs.Views.{Accessed, Keeps, Meets, Place, Points, Records, acquire_by, acquire_fence_by, add_atomic_by, add_cell_by, fence_by, join_by, meet_by, opening, points_after_acquire_fence, points_after_fence, points_after_load, points_after_raise, points_after_release_fence, points_after_spawn, points_after_store, points_after_unsync_load, points_after_update_read, points_after_update_write, points_after_with_mut, points_after_with_mut_end, points_of, record_by, recorded, release_by, scene_of, spawn_by, stamp_acquire_by, stamp_by, stamp_release_by, stores_at, update_fail_by, with_place, with_thread, yield_by}
use Rattle.loom_views.specs.Laws.Moves.{Moves, acquire, release, join, yielding, spawn, fence, new_point, new_stamp, stamp, release_to_stamp, acquire_from_stamp, new_atomic, load, store, update, update_fail, unsync_load, with_mut, with_mut_end, new_cell, begin_read, end_read, begin_write, end_write}
use Rattle.loom_views.specs.Laws.Orders.{LeadsReadably, none, later}
use Rattle.loom_views.proofs.Views.Growth.{GrownBy, same, quiet, raising, grown-joined, present-grown}
use Rattle.loom_views.proofs.Views.Reaching.{reaches-itself}
use Rattle.loom_views.proofs.Views.Views.{present-new, raised-no, raised-yes}
use Rattle.loom_views.proofs.Atomic.Growth.{raised-grown, read-length, scene_loaded-grown, scene_made-grown}
use Rattle.loom_views.proofs.Atomic.Table.Fences.{after_stores-grown}
use Rattle.loom_views.proofs.Atomic.Table.Lists.{get-append_other, get-append_same, get-set_other, get-set_same}
use Rattle.loom_views.proofs.Atomic.Reaching.Beginning.{if-passed, if-room}
use Rattle.loom_views.proofs.Atomic.Reaching.Moving.{access-if, from-ok}
use Rattle.loom_views.proofs.Atomic.Reaching.Raising.{Raised, raise-leads}
use Rattle.loom_views.proofs.Atomic.Orders.Moving.{appended, written}
use Rattle.loom_views.proofs.Atomic.Orders.Steps.{new_store}

-- all that the thread has raised has come to its present point, and a thread that isn't there has raised nothing
abbrev pub HasRaised : Graph → ℕ → Option ThreadPoints → Type 0
HasRaised g t None = raised g t ≡ []
HasRaised g t (Some own) = IsPresent g t own.present

-- the touches of a store are of five threads
abbrev pub HasFive : StorePoints → Type 0
HasFive kept = length kept.touched ≡ 5

abbrev pub HasStores : Option Place → Type 0
HasStores None = Unit {0}
HasStores (Some (Meets k)) = Unit {0}
HasStores (Some (Records cell)) = Unit {0}
HasStores (Some (Keeps history)) = (0 < length history.stores) × AllByRecursion HasFive history.stores

pub record Whole (p : Points) : Type 0 where
  pub five : length p.threads ≤ 5
  pub raised : (t : ℕ) → HasRaised p.graph t (slice_get p.threads t)
  pub stores : (n : ℕ) → HasStores (slice_get p.places n)

-- ---- graphs

-- the right graph has more points, none of which raises
abbrev Quietly : Graph → Graph → Type 0
Quietly g g' = (t : ℕ) → GrownBy t g g'

unraised : {t : ℕ} {g g' : Graph} → GrownBy t g g' → (u : ℕ) → t ≢ u → raised g u ≡ [] → raised g' u ≡ []
unraised same u n e = e
unraised (quiet {g' = g'} js r) u n e = raised-no (record { after = js; raises = None }) g' u refl ∙ unraised r u n e
unraised {t} (raising {g' = g'} js r) u n e = raised-no (record { after = js; raises = Some t }) g' u (ne_eqb t u n) ∙ unraised r u n e

-- what another thread has raised stays so
raised-off : {t : ℕ} {g g' : Graph} → GrownBy t g g' → (u : ℕ) → t ≢ u → (o : Option ThreadPoints) → HasRaised g u o → HasRaised g' u o
raised-off r u n None h = unraised r u n h
raised-off r u n (Some own) h = present-grown r u own.present n h

apart : (u : ℕ) → suc u ≢ u
apart u e = absurd (omega arith)

raised-still : (g g' : Graph) → Quietly g g' → (u : ℕ) (o : Option ThreadPoints) → HasRaised g u o → HasRaised g' u o
raised-still g g' q u o h = raised-off (q (suc u)) u (apart u) o h

present-still : (g g' : Graph) → Quietly g g' → (t k : ℕ) → IsPresent g t k → IsPresent g' t k
present-still g g' q t k h = present-grown (q (suc t)) t k (apart t) h

one-more : (js : List ℕ) (g : Graph) → Quietly g (moved g js)
one-more js g t = quiet js same

-- ---- stores

-- one element of a list is another one, which the others needn't be
set-off : {X : Type 0} (P : ℕ → Option X → Type 0) (xs : List X) (i : ℕ) (x : X) → i < length xs → P i (Some x) → ((j : ℕ) → i ≢ j → P j (slice_get xs j)) → (j : ℕ) → P j (slice_get (slice_set xs i x) j)
set-off P xs i x l new old j = ⊎_elim
    (λ e. subst (λ k. P k (slice_get (slice_set xs i x) k)) e (subst (P i) (sym (get-set_same xs i x l)) new))
    (λ d. subst (P j) (sym (get-set_other xs i j x (λ e. d (sym e)))) (old j d))
    (cases_eq i j)

five-set : (stores : List StorePoints) (k : ℕ) (y : StorePoints) → length y.touched ≡ length (get_or stores k blank).touched → AllByRecursion HasFive stores → AllByRecursion HasFive (set stores k y)
five-set [] k y e h = tt
five-set (x ∷ stores) zero y e h = (e ∙ h.0, h.1)
five-set (x ∷ stores) (suc k) y e h = (h.0, five-set stores k y e h.1)

five-more : (stores : List StorePoints) (y : StorePoints) → HasFive y → AllByRecursion HasFive stores → AllByRecursion HasFive (stores ++ y ∷ [])
five-more [] y e h = (e, tt)
five-more (x ∷ stores) y e h = (h.0, five-more stores y e h.1)

pub five-at : (stores : List StorePoints) (k : ℕ) → k < length stores → AllByRecursion HasFive stores → HasFive (get_or stores k blank)
five-at [] k l h = absurd (omega arith)
five-at (x ∷ stores) zero l h = h.0
five-at (x ∷ stores) (suc k) l h = five-at stores k (omega arith) h.1

touch-length : (touched : List (Option ℕ)) (t a : ℕ) → length (touch touched t a) ≡ length touched
touch-length touched t a = tested (is_some (slice_index_or touched t None))
  where
    tested : (b : Bool) → length (if b then touched else slice_set touched t (Some a)) ≡ length touched
    tested true = refl
    tested false = length-set touched t (Some a)

five-raised : (k : ℕ) (o : Ordered) (is : List ℕ) → AllByRecursion HasFive o.stores → AllByRecursion HasFive (orders_raised k o is).stores
five-raised k o [] h = h
five-raised k o (i ∷ is) h = five-raised k (order_raised k o i) is (five-set o.stores (number_in_slot (length o.stores) i) (record (in_slot o.stores i) { order = length o.graph }) refl h)

read-stores : (t : ℕ) (s : Scene) (slot : ℕ) → HasStores (Some (Keeps s.history)) → HasStores (Some (Keeps (scene_read t s slot).history))
read-stores t s slot h = (
  subst (λ n. 0 < n) (sym (read-length t s slot)) h.0,
  five-raised (length s.graph) (record { graph = graph_after_read s.graph s.history.stores s.thread.present slot; stores = stores_after_read s.graph t s.history.stores s.thread.present slot }) (slots_above s.graph s.history.stores slot)
      (five-set s.history.stores (number_in_slot (length s.history.stores) slot) (record (in_slot s.history.stores slot) { order = length s.graph; touched = touch (in_slot s.history.stores slot).touched t s.thread.present })
      (touch-length (in_slot s.history.stores slot).touched t s.thread.present) h.1),
)

-- a read raises nothing
read-quietly : (t : ℕ) (s : Scene) (slot : ℕ) → Quietly s.graph (scene_read t s slot).graph
read-quietly t s slot u =
    grown-joined (quiet _ same)
    (raised-grown u (length s.graph) (record { graph = graph_after_read s.graph s.history.stores s.thread.present slot; stores = stores_after_read s.graph t s.history.stores s.thread.present slot })
    (slots_above s.graph s.history.stores slot))

made-stores : (t : ℕ) (s : Scene) (value : ℕ) (copied : Option ℕ) (order : Ordering) → AllByRecursion HasFive s.history.stores → HasStores (Some (Keeps (scene_made t s value copied order).history))
made-stores t s value copied order h =
    let made = new_store t s value copied order in
    (omega (arith, length-append s.history.stores (made ∷ [])), five-more s.history.stores made (touch-length untouched t s.thread.present) h)

newest-stores : (stores : List StorePoints) (value : ℕ) → (0 < length stores) × AllByRecursion HasFive stores → (0 < length (with_newest stores value)) × AllByRecursion HasFive (with_newest stores value)
newest-stores stores value h =
    let newest : StorePoints = record (get_or stores (length stores - 1) blank) { value = value } in
    (let l = h.0 in omega (arith, length-set stores (length stores - 1) newest), five-set stores (length stores - 1) newest refl h.1)

-- ---- present points

-- a load leaves it so
loaded-present : (t : ℕ) (s : Scene) (k : ℕ) (order : Ordering) → IsPresent s.graph t s.thread.present → IsPresent (scene_loaded s k order).graph t (scene_loaded s k order).thread.present
loaded-present t s k order h = ⊎_elim (λ e. rw e (present-new (k ∷ []) None s.graph t s.thread.present h)) (λ e. rw e h) (cases_Bool (is_acquire order))

-- and so does what a thread gains from a store by a fence
fenced-present : (t : ℕ) (s : Standing) (stores : List StorePoints) → IsPresent s.graph t s.thread.present → IsPresent (after_stores s stores).graph t (after_stores s stores).thread.present
fenced-present t s [] h = h
fenced-present t s (kept ∷ stores) h = fenced-present t (after_store s kept) stores (tested (is_seen s.graph kept s.thread.present))
  where
    gained : Standing
    gained = record { graph = graph_after_acquire s.graph s.thread kept.sync; thread = with_present s.graph s.thread }

    chosen : Bool → Standing
    chosen b = if b then gained else s

    tested : (b : Bool) → IsPresent (chosen b).graph t (chosen b).thread.present
    tested true = present-new (kept.sync ∷ []) None s.graph t s.thread.present h
    tested false = h

-- a thread that has raised nothing raises
raised-first : (js : List ℕ) (g : Graph) (t : ℕ) → raised g t ≡ [] → IsPresent (moved_raising g js t) t (length g)
unfolding IsPresent
raised-first js g t e =
    rw (raised-yes (record { after = js; raises = Some t }) g t (eq-eqb t t refl), e) (reaches-itself (moved_raising g js t) (length g) (omega arith), tt)

-- ---- moves

module _ (p : Points) (h : Whole p) where
  still : (g : Graph) → Quietly p.graph g → (t : ℕ) → HasRaised g t (slice_get p.threads t)
  still g q t = raised-still p.graph g q t (slice_get p.threads t) (h.raised t)

  pub present-at : (t : ℕ) (own : ThreadPoints) → slice_get p.threads t ≡ Some own → IsPresent p.graph t own.present
  present-at t own e = subst (HasRaised p.graph t) e (h.raised t)

  pub stores-in : (n : ℕ) (history : History) → slice_get p.places n ≡ Some (Keeps history) → HasStores (Some (Keeps history))
  stores-in n history e = subst HasStores e (h.stores n)

  -- a thread moves
  whole-thread : (t : ℕ) (g : Graph) (own : ThreadPoints) → Quietly p.graph g → IsPresent g t own.present → Whole (with_thread p t g own)
  whole-thread t g own q k = record {
    five = let a = h.five in omega (arith, length-set p.threads t own);
    raised = written (HasRaised g) p.threads t own k (still g q);
    stores = h.stores;
  }

  -- an object changes, or there is one more
  whole-place : (n : ℕ) (g : Graph) (place : Place) → Quietly p.graph g → HasStores (Some place) → Whole (with_place p n g place)
  whole-place n g place q k = record { five = h.five; raised = still g q; stores = written (λ _. HasStores) p.places n place k h.stores }

  whole-new : (g : Graph) (place : Place) → Quietly p.graph g → HasStores (Some place) → Whole (record p { graph = g; places = p.places ++ place ∷ [] })
  whole-new g place q k = record { five = h.five; raised = still g q; stores = appended (λ _. HasStores) p.places place k h.stores }

  whole-quiet : (g : Graph) (stamps : List ℕ) (global : ℕ) → Quietly p.graph g → Whole (record p { graph = g; stamps = stamps; global = global })
  whole-quiet g stamps global q = record { five = h.five; raised = still g q; stores = h.stores }

  -- a thread accesses an atomic
  whole-access : (t n : ℕ) (s : Scene) → Quietly p.graph s.graph → IsPresent s.graph t s.thread.present → HasStores (Some (Keeps s.history)) → Whole (points_of p t n s)
  whole-access t n s q k l = record {
    five = let a = h.five in omega (arith, length-set p.threads t s.thread);
    raised = written (HasRaised s.graph) p.threads t s.thread k (still s.graph q);
    stores = written (λ _. HasStores) p.places n (Keeps s.history) l h.stores;
  }

  pub whole-raised : (t : ℕ) (q : Points) → Raised p q t → Whole q
  whole-raised t q r = rw r.to (record {
    five = let a = h.five in omega (arith, length-set p.threads t (with_present p.graph r.own));
    raised = set-off (HasRaised (graph_after_raise p.graph r.own t)) p.threads t (with_present p.graph r.own) r.there
        (present-new [] (Some t) p.graph t r.own.present (present-at t r.own r.is))
        (λ u n. raised-off (raising (r.own.present ∷ []) same) u n (slice_get p.threads u) (h.raised u));
    stores = h.stores;
  })

  acquire-whole : (t : ℕ) (o : Option ThreadPoints) (q : Option Place) → slice_get p.threads t ≡ o → Whole (acquire_by p t o q)
  acquire-whole t None q e = h
  acquire-whole t (Some own) None e = h
  acquire-whole t (Some own) (Some (Keeps history)) e = h
  acquire-whole t (Some own) (Some (Records cell)) e = h
  acquire-whole t (Some own) (Some (Meets k)) e = whole-thread t (graph_after_acquire p.graph own k) (with_present p.graph own) (one-more _ p.graph) (present-new (k ∷ []) None p.graph t own.present (present-at t own e))

  join-whole : (t : ℕ) (o q : Option ThreadPoints) → slice_get p.threads t ≡ o → Whole (join_by p t o q)
  join-whole t None q e = h
  join-whole t (Some own) None e = h
  join-whole t (Some own) (Some other) e = whole-thread t (graph_after_acquire p.graph own other.present) (with_present p.graph own) (one-more _ p.graph) (present-new (other.present ∷ []) None p.graph t own.present (present-at t own e))

  release-whole : (n : ℕ) (order : Ordering) (o : Option ThreadPoints) (q : Option Place) → Whole (release_by p n order o q)
  release-whole n order None q = h
  release-whole n order (Some own) None = h
  release-whole n order (Some own) (Some (Keeps history)) = h
  release-whole n order (Some own) (Some (Records cell)) = h
  release-whole n order (Some own) (Some (Meets k)) = whole-place n (graph_after_store p.graph own k order) (Meets (length p.graph)) (one-more _ p.graph) tt

  stamp-whole : (m : ℕ) (q : Option Place) → Whole (stamp_by p m q)
  stamp-whole m None = h
  stamp-whole m (Some (Keeps history)) = h
  stamp-whole m (Some (Records cell)) = h
  stamp-whole m (Some (Meets k)) = whole-quiet p.graph (slice_set p.stamps m k) p.global (λ t. same)

  stamp_release-whole : (m : ℕ) (order : Ordering) (o : Option ThreadPoints) (q : Option ℕ) → Whole (stamp_release_by p m order o q)
  stamp_release-whole m order None q = h
  stamp_release-whole m order (Some own) None = h
  stamp_release-whole m order (Some own) (Some k) = whole-quiet (graph_after_store p.graph own k order) (slice_set p.stamps m (length p.graph)) p.global (one-more _ p.graph)

  stamp_acquire-whole : (t : ℕ) (o : Option ThreadPoints) (q : Option ℕ) → slice_get p.threads t ≡ o → Whole (stamp_acquire_by p t o q)
  stamp_acquire-whole t None q e = h
  stamp_acquire-whole t (Some own) None e = h
  stamp_acquire-whole t (Some own) (Some k) e = whole-thread t (graph_after_acquire p.graph own k) (with_present p.graph own) (one-more _ p.graph) (present-new (k ∷ []) None p.graph t own.present (present-at t own e))

  yield-whole : (t : ℕ) (o : Option ThreadPoints) → slice_get p.threads t ≡ o → Whole (yield_by p t o)
  yield-whole t None e = h
  yield-whole t (Some own) e = whole-thread t p.graph (record own { yielded = Some own.present }) (λ u. same) (present-at t own e)

  release_fence-whole : (t : ℕ) (o : Option ThreadPoints) → slice_get p.threads t ≡ o → Whole (fence_by p t o)
  release_fence-whole t None e = h
  release_fence-whole t (Some own) e =
      whole-thread t (graph_after_release_fence p.graph own) (record own { released = length p.graph }) (one-more _ p.graph) (present-still p.graph _ (one-more _ p.graph) t own.present (present-at t own e))

  acquire_fence-whole : (t : ℕ) (o : Option ThreadPoints) → slice_get p.threads t ≡ o → Whole (acquire_fence_by p t o)
  acquire_fence-whole t None e = h
  acquire_fence-whole t (Some own) e =
      let start : Standing = record { graph = p.graph; thread = own } in
      let fenced = after_stores start (flat_map stores_at p.places) in
      whole-thread t fenced.graph fenced.thread (λ u. after_stores-grown u start (flat_map stores_at p.places)) (fenced-present t start (flat_map stores_at p.places) (present-at t own e))

  meet-whole : (t : ℕ) (o : Option ThreadPoints) → slice_get p.threads t ≡ o → Whole (meet_by p t o)
  meet-whole t None e = h
  meet-whole t (Some own) e = record {
    five = let a = h.five in omega (arith, length-set p.threads t (with_present p.graph own));
    raised = written (HasRaised g) p.threads t (with_present p.graph own) (present-still one g (one-more _ one) t (length p.graph) (present-new (p.global ∷ []) None p.graph t own.present (present-at t own e))) (still g twice);
    stores = h.stores;
  }
    where
      one : Graph
      one = graph_after_acquire p.graph own p.global

      g : Graph
      g = (meet_by p t (Some own)).graph

      twice : Quietly p.graph g
      twice u = quiet _ (quiet _ same)

  cell-whole : (o : Option ThreadPoints) → Whole (add_cell_by p o)
  cell-whole None = h
  cell-whole (Some own) = whole-new p.graph (Records _) (λ t. same) tt

  atomic-whole : (t value : ℕ) (o : Option ThreadPoints) → Whole (add_atomic_by p t value o)
  atomic-whole t value None = h
  atomic-whole t value (Some own) =
      let start : Scene = record { graph = p.graph; thread = own; history = new_history own.present } in
      let made = new_step t p.graph own value in
      whole-new made.graph (Keeps made.history) (λ u. scene_made-grown u start value None Release) (made-stores t start value None Release tt)

  spawn-whole : (t : ℕ) (o : Option ThreadPoints) → slice_get p.threads t ≡ o → IfOk (spawn_by p t o) (λ after. Whole after)
  spawn-whole t None e = tt
  spawn-whole t (Some own) e = full (nat_le 5 (length p.threads)) refl
    where
      child : ℕ
      child = length p.threads

      there : t < child
      there = slice_get_within p.threads t own e

      -- with the child's points
      with_child : Graph
      with_child = graph_with_child p.graph own child

      g : Graph
      g = graph_after_spawn p.graph own t child

      parent : ThreadPoints
      parent = parent_points p.graph own

      threads : List ThreadPoints
      threads = slice_set p.threads t parent

      after : Points
      after = record p { graph = g; threads = threads ++ child_points p.graph ∷ [] }

      by_child : GrownBy child p.graph with_child
      by_child = raising (own.present ∷ []) (quiet [] same)

      by_parent : GrownBy t with_child g
      by_parent = raising (own.present ∷ []) same

      off : child ≢ t
      off f = let l = there in omega arith

      before : raised p.graph child ≡ []
      before = subst (HasRaised p.graph child) (slice_get_past p.threads child (omega arith)) (h.raised child)

      others : (u : ℕ) → child ≢ u → t ≢ u → (o : Option ThreadPoints) → HasRaised p.graph u o → HasRaised g u o
      others u m n o k = raised-off by_parent u n o (raised-off by_child u m o k)

      -- the child has raised its present point alone
      child_raised : IsPresent g child (suc (length p.graph))
      child_raised =
          present-grown by_parent child (suc (length p.graph)) (λ f. off (sym f))
          (raised-first (own.present ∷ []) (moved p.graph []) child (raised-no (record { after = []; raises = None }) p.graph child refl ∙ before))

      parent_raised : IsPresent g t (suc (suc (length p.graph)))
      parent_raised = present-new [] (Some t) with_child t own.present (present-grown by_child t own.present off (present-at t own e))

      many : length threads ≡ child
      many = length-set p.threads t parent

      of_old : (u : ℕ) → child ≢ u → HasRaised g u (slice_get threads u)
      of_old u m = set-off (λ v o. child ≢ v → HasRaised g v o) p.threads t parent there (λ k. parent_raised) (λ v n k. others v k n (slice_get p.threads v) (h.raised v)) u m

      raised_then : (u : ℕ) → HasRaised g u (slice_get (threads ++ child_points p.graph ∷ []) u)
      raised_then u = ⊎_elim
          (λ f. subst (λ v. HasRaised g v (slice_get (threads ++ child_points p.graph ∷ []) v)) f (subst (HasRaised g child) (sym (get-append_same threads child (child_points p.graph) (sym many))) child_raised))
          (λ m. subst (HasRaised g u) (sym (get-append_other threads u (child_points p.graph) (λ f. m (sym (f ∙ many))))) (of_old u m))
          (cases_eq child u)

      led : nat_le 5 (length p.threads) ≡ false → Whole after
      led f = record {
        five = omega (arith, leb-false 5 (length p.threads) f, length-set p.threads t parent, length-append threads (child_points p.graph ∷ []));
        raised = raised_then;
        stores = h.stores;
      }

      room : Whole after → (a : Bool) → IfOk (if a then Ok after else Err TooManyVersions) (λ after. Whole after)
      room k true = k
      room k false = tt

      full : (a : Bool) → nat_le 5 (length p.threads) ≡ a → IfOk (if a then Err TooManyThreads else (if nat_lt (length (raised p.graph t)) 65534 then Ok after else Err TooManyVersions)) (λ after. Whole after)
      full true f = tt
      full false f = room (led f) (nat_lt (length (raised p.graph t)) 65534)

  -- a cell's records
  record-whole : (n : ℕ) (step : Graph → ℕ → Accesses → Result Accesses FailureKind) (o : Option ThreadPoints) (q : Option Place) → IfOk (record_by p n step o q) (λ after. Whole after)
  record-whole n step None q = tt
  record-whole n step (Some own) None = tt
  record-whole n step (Some own) (Some (Meets k)) = tt
  record-whole n step (Some own) (Some (Keeps history)) = tt
  record-whole n step (Some own) (Some (Records cell)) = led (step p.graph own.present cell)
    where
      led : (r : Result Accesses FailureKind) → IfOk (recorded p n r) (λ after. Whole after)
      led (Ok after) = whole-place n p.graph (Records after) (λ t. same) tt
      led (Err kind) = tt

  -- accesses of an atomic
  load-whole : (t n slot : ℕ) (order : Ordering) → IfOk (points_after_load p t n slot order) (λ after. Whole after.points)
  load-whole t n slot order = access-if p h.five (λ after. Whole after.points) t n (λ s. load_step t s slot order) (λ own history d e.
      let s = scene_of p own history in
      let read = scene_read t (scene_recorded_load s) slot in
      let sync = (in_slot history.stores slot).sync in
      let grown : Quietly p.graph read.graph = read-quietly t (scene_recorded_load s) slot in
      if-passed _ s (history.mutations ∷ []) _ p t n (whole-access t n (scene_loaded read sync order) (λ u. grown-joined (grown u) (scene_loaded-grown u read sync order))
      (loaded-present t read sync order (present-still p.graph read.graph grown t own.present (present-at t own d))) (read-stores t (scene_recorded_load s) slot (stores-in n history e))))

  store-whole : (t n value : ℕ) (order : Ordering) → IfOk (points_after_store p t n value order) (λ after. Whole after.points)
  store-whole t n value order = access-if p h.five (λ after. Whole after.points) t n (λ s. store_step t s value order) (λ own history d e.
      let s = scene_of p own history in
      let last = scene_made t (scene_recorded_store s) value None order in
      let grown : Quietly p.graph last.graph = λ u. scene_made-grown u (scene_recorded_store s) value None order in
      if-passed _ s (history.mutations ∷ history.unsync_loads ∷ []) _ p t n (if-room _ s _ p t n (whole-access t n last grown (present-still p.graph last.graph grown t own.present (present-at t own d)) (made-stores t (scene_recorded_store s) value None order (stores-in n history e).1))))

  update_read-whole : (t n slot : ℕ) → IfOk (points_after_update_read p t n slot) (λ after. Whole after.points)
  update_read-whole t n slot = access-if p h.five (λ after. Whole after.points) t n (λ s. update_read_step t s slot) (λ own history d e.
      let s = scene_of p own history in
      let read = scene_read t (scene_recorded_load s) slot in
      let grown : Quietly p.graph read.graph = read-quietly t (scene_recorded_load s) slot in
      if-passed _ s (history.mutations ∷ []) _ p t n (whole-access t n read grown (present-still p.graph read.graph grown t own.present (present-at t own d)) (read-stores t (scene_recorded_load s) slot (stores-in n history e))))

  update_write-whole : (t n slot value : ℕ) (order : Ordering) → IfOk (points_after_update_write p t n slot value order) (λ after. Whole after.points)
  update_write-whole t n slot value order = access-if p h.five (λ after. Whole after.points) t n (λ s. update_write_step t s slot value order) (λ own history d e.
      let s = scene_of p own history in
      let sync = (in_slot history.stores slot).sync in
      let loaded = scene_loaded (scene_recorded_store s) sync order in
      let last = scene_made t loaded value (Some sync) order in
      let more : Quietly loaded.graph last.graph = λ u. scene_made-grown u loaded value (Some sync) order in
      if-passed _ s (history.mutations ∷ history.unsync_loads ∷ []) _ p t n (if-room _ s _ p t n (whole-access t n last (λ u. grown-joined (scene_loaded-grown u (scene_recorded_store s) sync order) (more u))
      (present-still loaded.graph last.graph more t loaded.thread.present (loaded-present t (scene_recorded_store s) sync order (present-at t own d))) (made-stores t loaded value (Some sync) order (stores-in n history e).1))))

  update_fail-whole : (t slot : ℕ) (order : Ordering) (o : Option ThreadPoints) (q : Option Place) → slice_get p.threads t ≡ o → Whole (update_fail_by p t slot order o q)
  update_fail-whole t slot order None q e = h
  update_fail-whole t slot order (Some own) None e = h
  update_fail-whole t slot order (Some own) (Some (Meets k)) e = h
  update_fail-whole t slot order (Some own) (Some (Records cell)) e = h
  update_fail-whole t slot order (Some own) (Some (Keeps history)) e =
      let s = scene_of p own history in
      let k = (in_slot history.stores slot).sync in
      whole-thread t _ _ (λ u. scene_loaded-grown u s k order) (loaded-present t s k order (present-at t own e))

  unsync_load-whole : (t n : ℕ) → IfOk (points_after_unsync_load p t n) (λ after. Whole after.points)
  unsync_load-whole t n = access-if p h.five (λ after. Whole after.points) t n unsync_load_step (λ own history d e.
      if-passed _ (scene_of p own history) (history.mutations ∷ history.stored ∷ []) _ p t n (whole-access t n _ (λ u. same) (present-at t own d) (stores-in n history e)))

  with_mut-whole : (t n : ℕ) → IfOk (points_after_with_mut p t n) (λ after. Whole after.points)
  with_mut-whole t n = access-if p h.five (λ after. Whole after.points) t n mutate_step (λ own history d e.
      if-passed _ (scene_of p own history) (history.loads ∷ history.unsync_loads ∷ history.stored ∷ history.mutations ∷ []) _ p t n (whole-access t n _ (λ u. same) (present-at t own d) (stores-in n history e)))

  with_mut_end-whole : (t n value : ℕ) → IfOk (points_after_with_mut_end p t n value) (λ after. Whole after.points)
  with_mut_end-whole t n value = access-if p h.five (λ after. Whole after.points) t n (λ s. mutate_end_step s value) (λ own history d e.
      let closed : Scene = record { graph = p.graph; thread = own; history = record history { mutating = false; stores = with_newest history.stores value } } in
      if-passed _ closed (history.loads ∷ history.unsync_loads ∷ history.stored ∷ history.mutations ∷ []) _ p t n (whole-access t n _ (λ u. same) (present-at t own d) (newest-stores history.stores value (stores-in n history e))))

fence-whole : (p : Points) → Whole p → (t : ℕ) (order : Ordering) → Whole (points_after_fence p t order)
fence-whole p h t Relaxed = h
fence-whole p h t Acquire = acquire_fence-whole p h t (slice_get p.threads t) refl
fence-whole p h t Release = release_fence-whole p h t (slice_get p.threads t) refl
fence-whole p h t AcqRel =
    let one = points_after_acquire_fence p t in
    release_fence-whole one (acquire_fence-whole p h t (slice_get p.threads t) refl) t (slice_get one.threads t) refl
fence-whole p h t SeqCst =
    let one = points_after_acquire_fence p t in
    let two = points_after_release_fence one t in
    meet-whole two (release_fence-whole one (acquire_fence-whole p h t (slice_get p.threads t) refl) t (slice_get one.threads t) refl) t (slice_get two.threads t) refl

-- where a step led
points-whole : (result : Result Points FailureKind) (after : Points) → result ≡ Ok after → IfOk result (λ after. Whole after) → Whole after
points-whole result after e h = from-ok (λ (after : Points). Whole after) result after e h

accessed-whole : (result : Result Accessed FailureKind) (after : Accessed) → result ≡ Ok after → IfOk result (λ after. Whole after.points) → Whole after.points
accessed-whole result after e h = from-ok (λ (after : Accessed). Whole after.points) result after e h

pub raise-whole : (p raised : Points) (t : ℕ) → Whole p → points_after_raise p t ≡ Ok raised → Whole raised
raise-whole p raised t h e = whole-raised p h t raised (raise-leads p raised t e)

move-whole : (p q : Points) → Whole p → Moves p q → Whole q
move-whole p _ h (acquire t n) = acquire-whole p h t (slice_get p.threads t) (slice_get p.places n) refl
move-whole p _ h (release t n order) = release-whole p h n order (slice_get p.threads t) (slice_get p.places n)
move-whole p _ h (join t u) = join-whole p h t (slice_get p.threads t) (slice_get p.threads u) refl
move-whole p _ h (yielding t) = yield-whole p h t (slice_get p.threads t) refl
move-whole p _ h (spawn t after e) = points-whole (points_after_spawn p t) after e (spawn-whole p h t (slice_get p.threads t) refl)
move-whole p _ h (fence t order raised e) = fence-whole raised (raise-whole p raised t h e) t order
move-whole p _ h new_point = whole-new p h (moved p.graph []) (Meets (length p.graph)) (one-more [] p.graph) tt
move-whole p _ h new_stamp = whole-quiet p h (moved p.graph []) (p.stamps ++ length p.graph ∷ []) p.global (one-more [] p.graph)
move-whole p _ h (stamp n m) = stamp-whole p h m (slice_get p.places n)
move-whole p _ h (release_to_stamp t m order) = stamp_release-whole p h m order (slice_get p.threads t) (slice_get p.stamps m)
move-whole p _ h (acquire_from_stamp t m) = stamp_acquire-whole p h t (slice_get p.threads t) (slice_get p.stamps m) refl
move-whole p _ h (new_atomic t value) = atomic-whole p h t value (slice_get p.threads t)
move-whole p _ h (load t n slot order raised after d e) = accessed-whole _ after e (load-whole raised (raise-whole p raised t h d) t n slot order)
move-whole p _ h (store t n value order raised after d e) = accessed-whole _ after e (store-whole raised (raise-whole p raised t h d) t n value order)
move-whole p _ h (update t n slot value order raised read after c d e) =
    accessed-whole _ after e (update_write-whole read.points (accessed-whole _ read d (update_read-whole raised (raise-whole p raised t h c) t n slot)) t n slot value order)
move-whole p _ h (update_fail t n slot order raised read c d) =
    update_fail-whole read.points (accessed-whole _ read d (update_read-whole raised (raise-whole p raised t h c) t n slot)) t slot order (slice_get read.points.threads t) (slice_get read.points.places n) refl
move-whole p _ h (unsync_load t n after e) = accessed-whole _ after e (unsync_load-whole p h t n)
move-whole p _ h (with_mut t n after e) = accessed-whole _ after e (with_mut-whole p h t n)
move-whole p _ h (with_mut_end t n value after e) = accessed-whole _ after e (with_mut_end-whole p h t n value)
move-whole p _ h (new_cell t) = cell-whole p h (slice_get p.threads t)
move-whole p _ h (begin_read t n raised after d e) = points-whole _ after e (record-whole raised (raise-whole p raised t h d) n read_step (slice_get raised.threads t) (slice_get raised.places n))
move-whole p _ h (end_read t n after e) = points-whole _ after e (record-whole p h n read_step (slice_get p.threads t) (slice_get p.places n))
move-whole p _ h (begin_write t n raised after d e) = points-whole _ after e (record-whole raised (raise-whole p raised t h d) n write_step (slice_get raised.threads t) (slice_get raised.places n))
move-whole p _ h (end_write t n after e) = points-whole _ after e (record-whole p h n write_step (slice_get p.threads t) (slice_get p.places n))

none-raised : (t : ℕ) → raised opening.graph t ≡ []
unfolding raised
none-raised t = refl

present-first : (g : Graph) (t k : ℕ) → raised g t ≡ [] → IsPresent g t k
unfolding IsPresent
present-first g t k e = rw e tt

opening-whole : Whole opening
opening-whole = record { five = omega arith; raised = at; stores = λ n. tt }
  where
    at : (t : ℕ) → HasRaised opening.graph t (slice_get opening.threads t)
    at zero = present-first opening.graph 0 1 (none-raised 0)
    at (suc t) = none-raised (suc t)

whole-on : (p q : Points) → Whole p → LeadsReadably p q → Whole q
whole-on p _ h none = h
whole-on p _ h (later q r l m k) = move-whole q r (whole-on p q h l) m

pub leads-whole : (p : Points) → LeadsReadably opening p → Whole p
leads-whole p l = whole-on opening p opening-whole l
