-- Each move of a run that reads what may be read keeps the orders of the kept stores apart.
use Rattle.std.proofs.Common.{zero, suc, ◌≡◌, ℕ, ◌<◌, ◌≤◌, Bool, true, false, List, [], ◌∷◌, ◌++◌, length, refl, ap, sym, ◌∙◌, subst, arith, ⊎_elim, leb-false, length-append, Option, Some, None, Result, Ok, Err}
use Rattle.std.specs.Prelude.{IfOk, nat_lt, nat_le, if◌then◌else◌, slice_set}
use Rattle.std.specs.List.{slice_get, flat_map}
use Rattle.std.specs.declared.sync.atomic.Ordering.{Ordering}
use Rattle.std.specs.declared.sync.atomic.Ordering.TheVariants.{Relaxed, Release, Acquire, AcqRel, SeqCst}
use Rattle.std.proofs.lemmas.Bool.{cases_Bool, cases_eq, cases_lt}
use Rattle.std.proofs.lemmas.List.{length-set}
use Rattle.std.proofs.lemmas.Option.{slice_get_within, slice_get_past}
use Rattle.loom_views.specs.declared.rt.failure.FailureKind.{FailureKind}
use Rattle.loom_views.specs.declared.rt.failure.FailureKind.TheVariants.{TooManyThreads, TooManyVersions, OrdersEqual}
use Rattle.loom_views.specs.declared.rt.atomic.reader.Reader.{Reader}
use Rattle.loom_views.specs.declared.rt.atomic.reader.Reader.TheVariants.{Load, Update}
use Rattle.loom_views.specs.Graph.{Graph, raised, moved}
use Rattle.loom_views.specs.ThreadViews.{ThreadPoints, with_present, graph_after_raise, graph_after_acquire, graph_after_release_fence, graph_after_store, graph_after_spawn, child_points, parent_points}
use Rattle.loom_views.specs.Atomic.Fences.{Standing, after_store, after_stores}
use Rattle.loom_views.specs.Atomic.History.{StorePoints, Scene, History, in_slot, is_seen, readable, fails_by_orders, load_step, store_step, update_read_step, update_write_step, unsync_load_step, mutate_step, mutate_end_step, new_step, scene_read, scene_loaded, scene_made, scene_recorded_load, scene_recorded_store, with_newest}
use Rattle.loom_views.specs.Orderings.{is_acquire}
use Rattle.loom_views.specs.CellAccesses.{Accesses, read_step, write_step}
use Rattle.loom_views.specs.Views.{Place, Meets, Keeps, Records, Points, Accessed, opening, has_slot, stores_at, with_thread, with_place, scene_of, points_of, recorded, record_by, acquire_by, release_by, stamp_by, stamp_release_by, stamp_acquire_by, fence_by, yield_by, spawn_by, join_by, add_atomic_by, add_cell_by, update_fail_by, acquire_fence_by, meet_by, readable_slots_of, points_after_raise, points_after_fence, points_after_acquire_fence, points_after_release_fence, points_after_load, points_after_store, points_after_update_read, points_after_update_write, points_after_unsync_load, points_after_with_mut, points_after_with_mut_end, points_after_read, points_after_write, points_after_spawn}
use Rattle.loom_views.specs.Laws.Reaching.{Extends}
use Rattle.loom_views.specs.Laws.Moves.{Moves, acquire, release, join, yielding, spawn, fence, new_point, new_stamp, stamp, release_to_stamp, acquire_from_stamp, new_atomic, load, store, update, update_fail, unsync_load, with_mut, with_mut_end, new_cell, begin_read, end_read, begin_write, end_write}
use Rattle.loom_views.specs.Laws.Orders.{MayRead, ReadsReadable, LeadsReadably, none, later}
use Rattle.loom_views.proofs.Views.Growth.{same, quiet, grown-joined}
use Rattle.loom_views.proofs.Atomic.Growth.{scene_read-grown, scene_loaded-grown, scene_made-grown}
use Rattle.loom_views.proofs.Atomic.Table.Lists.{get-set_same, get-set_other, get-append_same, get-append_other}
use Rattle.loom_views.proofs.Atomic.Table.Fences.{after_stores-grown}
use Rattle.loom_views.proofs.Atomic.Reaching.Raising.{extends-itself, extends-more, extends-grown, Raised, raise-leads}
use Rattle.loom_views.proofs.Atomic.Reaching.Beginning.{if-passed, if-room}
use Rattle.loom_views.proofs.Atomic.Reaching.Moving.{from-ok, access-if}
use Rattle.loom_views.proofs.Atomic.Orders.Points.{AreApart, Fresh, sooner, last-one, apart-extends}
use Rattle.loom_views.proofs.Atomic.Orders.Making.{fresh-raised}
use Rattle.loom_views.proofs.Atomic.Orders.Steps.{IsFree, Stands, readable-free, stands-read, stands-loaded, apart-stored, apart-created, apart-newest}

-- an atomic has orders that are apart, and its stores of these numbers have been passed; no other object has such numbers
abbrev pub PlaceApart : (ℕ → ℕ → Type 0) → Graph → ℕ → Option Place → Type 0
PlaceApart D g n None = (number : ℕ) → D n number → ⊥
PlaceApart D g n (Some (Meets k)) = (number : ℕ) → D n number → ⊥
PlaceApart D g n (Some (Records cell)) = (number : ℕ) → D n number → ⊥
PlaceApart D g n (Some (Keeps history)) = AreApart (D n) g history.stores

abbrev pub IsThere : Graph → Option ThreadPoints → Type 0
IsThere g None = Unit {0}
IsThere g (Some own) = own.present < length g

-- what each move keeps: the orders of each atomic are apart, and each thread's present point is there
pub record Sound (D : ℕ → ℕ → Type 0) (p : Points) : Type 0 where
  pub five : length p.threads ≤ 5
  pub there : (t : ℕ) → IsThere p.graph (slice_get p.threads t)
  pub apart : (n : ℕ) → PlaceApart D p.graph n (slice_get p.places n)

longer : (g g' : Graph) → Extends g g' → length g ≤ length g'
longer g g' h = rw h.is (omega (arith, length-append h.added g))

there-extends : (g g' : Graph) → Extends g g' → (o : Option ThreadPoints) → IsThere g o → IsThere g' o
there-extends g g' h None l = tt
there-extends g g' h (Some own) l = let m = longer g g' h in omega arith

place-extends : (D : ℕ → ℕ → Type 0) (g g' : Graph) → Extends g g' → (n : ℕ) (o : Option Place) → PlaceApart D g n o → PlaceApart D g' n o
place-extends D g g' h n None a = a
place-extends D g g' h n (Some (Meets k)) a = a
place-extends D g g' h n (Some (Records cell)) a = a
place-extends D g g' h n (Some (Keeps history)) a = apart-extends (D n) g g' history.stores h a

-- one element of a list is another
pub written : {X : Type 0} (P : ℕ → Option X → Type 0) (xs : List X) (i : ℕ) (x : X) → P i (Some x) → ((j : ℕ) → P j (slice_get xs j)) → (j : ℕ) → P j (slice_get (slice_set xs i x) j)
written P xs i x new old j = ⊎_elim same_one (λ d. subst (P j) (sym (get-set_other xs i j x d)) (old j)) (cases_eq j i)
  where
    same_one : j ≡ i → P j (slice_get (slice_set xs i x) j)
    same_one e = ⊎_elim
        (λ l. subst (P j) (sym (ap (slice_get (slice_set xs i x)) e ∙ get-set_same xs i x l)) (subst (λ m. P m (Some x)) (sym e) new))
        (λ l. subst (P j) (slice_get_past xs j (omega arith) ∙ sym (slice_get_past (slice_set xs i x) j (omega (arith, length-set xs i x)))) (old j))
        (cases_lt i (length xs))

-- there is one more
pub appended : {X : Type 0} (P : ℕ → Option X → Type 0) (xs : List X) (x : X) → P (length xs) (Some x) → ((j : ℕ) → P j (slice_get xs j)) → (j : ℕ) → P j (slice_get (xs ++ x ∷ []) j)
appended P xs x new old j = ⊎_elim (λ e. subst (P j) (sym (get-append_same xs j x e)) (subst (λ m. P m (Some x)) (sym e) new)) (λ d. subst (P j) (sym (get-append_other xs j x d)) (old j)) (cases_eq j (length xs))

-- a load leaves the present point there
loaded-there : (s : Scene) (k : ℕ) (order : Ordering) → s.thread.present < length s.graph → (scene_loaded s k order).thread.present < length (scene_loaded s k order).graph
loaded-there s k order l = ⊎_elim (λ e. rw e (last-one (length s.graph))) (λ e. rw e l) (cases_Bool (is_acquire order))

module _ (D : ℕ → ℕ → Type 0) (p : Points) (h : Sound D p) where
  there-still : (g : Graph) → Extends p.graph g → (t : ℕ) → IsThere g (slice_get p.threads t)
  there-still g e t = there-extends p.graph g e (slice_get p.threads t) (h.there t)

  apart-still : (g : Graph) → Extends p.graph g → (n : ℕ) → PlaceApart D g n (slice_get p.places n)
  apart-still g e n = place-extends D p.graph g e n (slice_get p.places n) (h.apart n)

  -- a thread moves
  pub sound-thread : (t : ℕ) (g : Graph) (own : ThreadPoints) → Extends p.graph g → own.present < length g → Sound D (with_thread p t g own)
  sound-thread t g own e l = record {
    five = let a = h.five in omega (arith, length-set p.threads t own);
    there = written (λ _. IsThere g) p.threads t own l (there-still g e);
    apart = apart-still g e;
  }

  -- an object changes
  pub sound-place : (n : ℕ) (g : Graph) (place : Place) → Extends p.graph g → PlaceApart D g n (Some place) → Sound D (with_place p n g place)
  sound-place n g place e a = record {
    five = h.five;
    there = there-still g e;
    apart = written (PlaceApart D g) p.places n place a (apart-still g e);
  }

  -- there is one object more
  pub sound-new : (g : Graph) (place : Place) → Extends p.graph g → PlaceApart D g (length p.places) (Some place) → Sound D (record p { graph = g; places = p.places ++ place ∷ [] })
  sound-new g place e a = record {
    five = h.five;
    there = there-still g e;
    apart = appended (PlaceApart D g) p.places place a (apart-still g e);
  }

  -- stamps change, or the global point
  pub sound-quiet : (g : Graph) (stamps : List ℕ) (global : ℕ) → Extends p.graph g → Sound D (record p { graph = g; stamps = stamps; global = global })
  sound-quiet g stamps global e = record { five = h.five; there = there-still g e; apart = apart-still g e }

  -- a thread accesses an atomic
  pub sound-access : (t n : ℕ) (s : Scene) → Extends p.graph s.graph → s.thread.present < length s.graph → AreApart (D n) s.graph s.history.stores → Sound D (points_of p t n s)
  sound-access t n s e l a = record {
    five = let b = h.five in omega (arith, length-set p.threads t s.thread);
    there = written (λ _. IsThere s.graph) p.threads t s.thread l (there-still s.graph e);
    apart = written (PlaceApart D s.graph) p.places n (Keeps s.history) a (apart-still s.graph e);
  }

  there-at : (t : ℕ) (own : ThreadPoints) → slice_get p.threads t ≡ Some own → own.present < length p.graph
  there-at t own e = subst (IsThere p.graph) e (h.there t)

  pub apart-at : (n : ℕ) (history : History) → slice_get p.places n ≡ Some (Keeps history) → AreApart (D n) p.graph history.stores
  apart-at n history e = subst (PlaceApart D p.graph n) e (h.apart n)

  -- an object that isn't an atomic has no such numbers, nor has one that is still to be made
  no-point : (n k : ℕ) → slice_get p.places n ≡ Some (Meets k) → (number : ℕ) → D n number → ⊥
  no-point n k e = subst (PlaceApart D p.graph n) e (h.apart n)

  no-cell : (n : ℕ) (cell : Accesses) → slice_get p.places n ≡ Some (Records cell) → (number : ℕ) → D n number → ⊥
  no-cell n cell e = subst (PlaceApart D p.graph n) e (h.apart n)

  no-next : (number : ℕ) → D (length p.places) number → ⊥
  no-next = subst (PlaceApart D p.graph (length p.places)) (slice_get_past p.places (length p.places) (omega arith)) (h.apart (length p.places))

  pub raise-sound : (t : ℕ) (q : Points) → Raised p q t → Sound D q
  raise-sound t q r = rw r.to (sound-thread t (graph_after_raise p.graph r.own t) (with_present p.graph r.own) (extends-more _ p.graph p.graph (extends-itself p.graph)) (last-one (length p.graph)))

  -- the moves of threads and of what they synchronize at
  acquire-sound : (t : ℕ) (o : Option ThreadPoints) (q : Option Place) → Sound D (acquire_by p t o q)
  acquire-sound t None q = h
  acquire-sound t (Some own) None = h
  acquire-sound t (Some own) (Some (Keeps history)) = h
  acquire-sound t (Some own) (Some (Records cell)) = h
  acquire-sound t (Some own) (Some (Meets k)) = sound-thread t (graph_after_acquire p.graph own k) (with_present p.graph own) (extends-more _ p.graph p.graph (extends-itself p.graph)) (last-one (length p.graph))

  join-sound : (t : ℕ) (o q : Option ThreadPoints) → Sound D (join_by p t o q)
  join-sound t None q = h
  join-sound t (Some own) None = h
  join-sound t (Some own) (Some other) = sound-thread t (graph_after_acquire p.graph own other.present) (with_present p.graph own) (extends-more _ p.graph p.graph (extends-itself p.graph)) (last-one (length p.graph))

  release-sound : (n : ℕ) (order : Ordering) (o : Option ThreadPoints) (q : Option Place) → slice_get p.places n ≡ q → Sound D (release_by p n order o q)
  release-sound n order None q e = h
  release-sound n order (Some own) None e = h
  release-sound n order (Some own) (Some (Keeps history)) e = h
  release-sound n order (Some own) (Some (Records cell)) e = h
  release-sound n order (Some own) (Some (Meets k)) e = sound-place n (graph_after_store p.graph own k order) (Meets (length p.graph)) (extends-more _ p.graph p.graph (extends-itself p.graph)) (no-point n k e)

  stamp-sound : (m : ℕ) (q : Option Place) → Sound D (stamp_by p m q)
  stamp-sound m None = h
  stamp-sound m (Some (Keeps history)) = h
  stamp-sound m (Some (Records cell)) = h
  stamp-sound m (Some (Meets k)) = sound-quiet p.graph (slice_set p.stamps m k) p.global (extends-itself p.graph)

  stamp_release-sound : (m : ℕ) (order : Ordering) (o : Option ThreadPoints) (q : Option ℕ) → Sound D (stamp_release_by p m order o q)
  stamp_release-sound m order None q = h
  stamp_release-sound m order (Some own) None = h
  stamp_release-sound m order (Some own) (Some k) = sound-quiet (graph_after_store p.graph own k order) (slice_set p.stamps m (length p.graph)) p.global (extends-more _ p.graph p.graph (extends-itself p.graph))

  stamp_acquire-sound : (t : ℕ) (o : Option ThreadPoints) (q : Option ℕ) → Sound D (stamp_acquire_by p t o q)
  stamp_acquire-sound t None q = h
  stamp_acquire-sound t (Some own) None = h
  stamp_acquire-sound t (Some own) (Some k) = sound-thread t (graph_after_acquire p.graph own k) (with_present p.graph own) (extends-more _ p.graph p.graph (extends-itself p.graph)) (last-one (length p.graph))

  yield-sound : (t : ℕ) (o : Option ThreadPoints) → slice_get p.threads t ≡ o → Sound D (yield_by p t o)
  yield-sound t None e = h
  yield-sound t (Some own) e = sound-thread t p.graph (record own { yielded = Some own.present }) (extends-itself p.graph) (there-at t own e)

  release_fence-sound : (t : ℕ) (o : Option ThreadPoints) → slice_get p.threads t ≡ o → Sound D (fence_by p t o)
  release_fence-sound t None e = h
  release_fence-sound t (Some own) e = sound-thread t (graph_after_release_fence p.graph own) (record own { released = length p.graph }) (extends-more _ p.graph p.graph (extends-itself p.graph)) (sooner own.present (length p.graph) (there-at t own e))

  acquire_fence-sound : (t : ℕ) (o : Option ThreadPoints) → slice_get p.threads t ≡ o → Sound D (acquire_fence_by p t o)
  acquire_fence-sound t None e = h
  acquire_fence-sound t (Some own) e =
      let start : Standing = record { graph = p.graph; thread = own } in
      let fenced = after_stores start (flat_map stores_at p.places) in
      sound-thread t fenced.graph fenced.thread (extends-grown (after_stores-grown t start (flat_map stores_at p.places))) (fenced-there start (flat_map stores_at p.places) (there-at t own e))
    where
      one-there : (s : Standing) (kept : StorePoints) → s.thread.present < length s.graph → (after_store s kept).thread.present < length (after_store s kept).graph
      one-there s kept l = tested (is_seen s.graph kept s.thread.present)
        where
          gained : Standing
          gained = record { graph = graph_after_acquire s.graph s.thread kept.sync; thread = with_present s.graph s.thread }

          chosen : Bool → Standing
          chosen b = if b then gained else s

          tested : (b : Bool) → (chosen b).thread.present < length (chosen b).graph
          tested true = last-one (length s.graph)
          tested false = l

      fenced-there : (s : Standing) (stores : List StorePoints) → s.thread.present < length s.graph → (after_stores s stores).thread.present < length (after_stores s stores).graph
      fenced-there s [] l = l
      fenced-there s (kept ∷ stores) l = fenced-there (after_store s kept) stores (one-there s kept l)

  meet-sound : (t : ℕ) (o : Option ThreadPoints) → Sound D (meet_by p t o)
  meet-sound t None = h
  meet-sound t (Some own) =
      let g = (meet_by p t (Some own)).graph in
      record {
        five = let b = h.five in omega (arith, length-set p.threads t (with_present p.graph own));
        there = written (λ _. IsThere g) p.threads t (with_present p.graph own) (sooner (length p.graph) (suc (length p.graph)) (last-one (length p.graph))) (there-still g grown);
        apart = apart-still g grown;
      }
    where
      grown : Extends p.graph (meet_by p t (Some own)).graph
      grown = extends-grown {t = t} (quiet (p.global ∷ length p.graph ∷ []) (quiet (own.present ∷ p.global ∷ []) same))

  cell-sound : (o : Option ThreadPoints) → Sound D (add_cell_by p o)
  cell-sound None = h
  cell-sound (Some own) = sound-new p.graph (Records _) (extends-itself p.graph) no-next

  atomic-sound : (t value : ℕ) (o : Option ThreadPoints) → slice_get p.threads t ≡ o → Sound D (add_atomic_by p t value o)
  atomic-sound t value None e = h
  atomic-sound t value (Some own) e =
      let made = new_step t p.graph own value in
      let l = slice_get_within p.threads t own e in
      let f = h.five in
      sound-new made.graph (Keeps made.history) (extends-grown (scene_made-grown t (record { graph = p.graph; thread = own; history = record { stores = []; loads = []; stored = []; unsync_loads = []; mutations = own.present ∷ []; mutating = false } }) value None Release)) (apart-created (D (length p.places)) no-next t p.graph own value (omega arith) (there-at t own e))

  spawn-sound : (t : ℕ) (o : Option ThreadPoints) → IfOk (spawn_by p t o) (λ after. Sound D after)
  spawn-sound t None = tt
  spawn-sound t (Some own) = full (nat_le 5 (length p.threads)) refl
    where
      after : Points
      after = record p { graph = graph_after_spawn p.graph own t (length p.threads); threads = slice_set p.threads t (parent_points p.graph own) ++ child_points p.graph ∷ [] }

      grown : Extends p.graph after.graph
      grown = extends-more _ p.graph _ (extends-more _ p.graph _ (extends-more _ p.graph p.graph (extends-itself p.graph)))

      led : nat_le 5 (length p.threads) ≡ false → Sound D after
      led e = record {
        five = omega (arith, leb-false 5 (length p.threads) e, length-set p.threads t (parent_points p.graph own), length-append (slice_set p.threads t (parent_points p.graph own)) (child_points p.graph ∷ []));
        there = appended (λ _. IsThere after.graph) (slice_set p.threads t (parent_points p.graph own)) (child_points p.graph) (sooner (suc (length p.graph)) (suc (suc (length p.graph))) (last-one (suc (length p.graph)))) (written (λ _. IsThere after.graph) p.threads t (parent_points p.graph own) (last-one (suc (suc (length p.graph)))) (there-still after.graph grown));
        apart = apart-still after.graph grown;
      }

      room : Sound D after → (a : Bool) → IfOk (if a then Ok after else Err TooManyVersions) (λ after. Sound D after)
      room k true = k
      room k false = tt

      full : (a : Bool) → nat_le 5 (length p.threads) ≡ a → IfOk (if a then Err TooManyThreads else (if nat_lt (length (raised p.graph t)) 65534 then Ok after else Err TooManyVersions)) (λ after. Sound D after)
      full true e = tt
      full false e = room (led e) (nat_lt (length (raised p.graph t)) 65534)

  -- a cell's records
  record-sound : (n : ℕ) (step : Graph → ℕ → Accesses → Result Accesses FailureKind) (o : Option ThreadPoints) (q : Option Place) → slice_get p.places n ≡ q → IfOk (record_by p n step o q) (λ after. Sound D after)
  record-sound n step None q e = tt
  record-sound n step (Some own) None e = tt
  record-sound n step (Some own) (Some (Meets k)) e = tt
  record-sound n step (Some own) (Some (Keeps history)) e = tt
  record-sound n step (Some own) (Some (Records cell)) e = led (step p.graph own.present cell)
    where
      led : (r : Result Accesses FailureKind) → IfOk (recorded p n r) (λ after. Sound D after)
      led (Ok after) = sound-place n p.graph (Records after) (extends-itself p.graph) (no-cell n cell e)
      led (Err kind) = tt

  -- accesses of an atomic that don't synchronize keep its stores, but for a value
  unsync_load-sound : (t n : ℕ) → IfOk (points_after_unsync_load p t n) (λ after. Sound D after.points)
  unsync_load-sound t n = access-if p h.five (λ after. Sound D after.points) t n unsync_load_step (λ own history d e.
      if-passed _ (scene_of p own history) (history.mutations ∷ history.stored ∷ []) _ p t n (sound-access t n _ (extends-itself p.graph) (there-at t own d) (apart-at n history e)))

  with_mut-sound : (t n : ℕ) → IfOk (points_after_with_mut p t n) (λ after. Sound D after.points)
  with_mut-sound t n = access-if p h.five (λ after. Sound D after.points) t n mutate_step (λ own history d e.
      if-passed _ (scene_of p own history) (history.loads ∷ history.unsync_loads ∷ history.stored ∷ history.mutations ∷ []) _ p t n (sound-access t n _ (extends-itself p.graph) (there-at t own d) (apart-at n history e)))

  with_mut_end-sound : (t n value : ℕ) → IfOk (points_after_with_mut_end p t n value) (λ after. Sound D after.points)
  with_mut_end-sound t n value = access-if p h.five (λ after. Sound D after.points) t n (λ s. mutate_end_step s value) (λ own history d e.
      let closed : Scene = record { graph = p.graph; thread = own; history = record history { mutating = false; stores = with_newest history.stores value } } in
      if-passed _ closed (history.loads ∷ history.unsync_loads ∷ history.stored ∷ history.mutations ∷ []) _ p t n (sound-access t n _ (extends-itself p.graph) (there-at t own d) (apart-newest (D n) p.graph history.stores value (apart-at n history e))))

  -- the end of a read-modify-write that fails
  update_fail-sound : (t slot : ℕ) (order : Ordering) (o : Option ThreadPoints) (q : Option Place) → slice_get p.threads t ≡ o → Sound D (update_fail_by p t slot order o q)
  update_fail-sound t slot order None q e = h
  update_fail-sound t slot order (Some own) None e = h
  update_fail-sound t slot order (Some own) (Some (Meets k)) e = h
  update_fail-sound t slot order (Some own) (Some (Records cell)) e = h
  update_fail-sound t slot order (Some own) (Some (Keeps history)) e =
      let s = scene_of p own history in
      let k = (in_slot history.stores slot).sync in
      sound-thread t _ _ (extends-grown (scene_loaded-grown t s k order)) (loaded-there s k order (there-at t own e))

-- a thread that has raised accesses atomic n
abbrev pub JustRaised : Points → ℕ → ℕ → Type 0
JustRaised p t n = (own : ThreadPoints) (history : History) → slice_get p.threads t ≡ Some own → slice_get p.places n ≡ Some (Keeps history) → Fresh p.graph history.stores t own.present

pub raise-fresh : (D : ℕ → ℕ → Type 0) (p : Points) → Sound D p → (t n : ℕ) (q : Points) → Raised p q t → JustRaised q t n
raise-fresh D p h t n q r = rw r.to at
  where
    new : ThreadPoints
    new = with_present p.graph r.own

    at : JustRaised (with_thread p t (graph_after_raise p.graph r.own t) new) t n
    at own history d e =
        let there : slice_get (slice_set p.threads t new) t ≡ Some new = get-set_same p.threads t new r.there in
        let same_one : own ≡ new = cc in
        let l = r.there in
        let f = h.five in
        rw same_one (fresh-raised (D n) p.graph history.stores t r.own.present (omega arith) (apart-at D p h n history e))

-- of a choice that was made
pub chosen-among : (p : Points) (t n : ℕ) (reader : Reader) (slot : ℕ) (own : ThreadPoints) (history : History) → slice_get p.threads t ≡ Some own → slice_get p.places n ≡ Some (Keeps history) → MayRead p t n reader slot → has_slot (readable p.graph t own reader history.stores) slot ≡ true
chosen-among p t n reader slot own history d e m = subst (λ ks. has_slot ks slot ≡ true) (sym (tested (fails_by_orders p.graph t own reader history.stores) (sym by ∙ m.offered))) m.among
  where
    by : readable_slots_of p t n reader ≡ (if fails_by_orders p.graph t own reader history.stores then Err OrdersEqual else Ok (readable p.graph t own reader history.stores))
    by = rw (d, e) refl

    tested : (a : Bool) → ◌≡◌ {A = Result (List ℕ) FailureKind} (if a then Err OrdersEqual else Ok (readable p.graph t own reader history.stores)) (Ok m.slots) → readable p.graph t own reader history.stores ≡ m.slots
    tested true q = absurd (cc)
    tested false q = cc

pub chosen-free : (p : Points) (t n : ℕ) (reader : Reader) (slot : ℕ) (own : ThreadPoints) (history : History) → slice_get p.threads t ≡ Some own → slice_get p.places n ≡ Some (Keeps history) → MayRead p t n reader slot → IsFree p.graph history.stores own.present slot
chosen-free p t n reader slot own history d e m = readable-free p.graph t own reader history.stores slot (chosen-among p t n reader slot own history d e m)

-- a thread's present point, in a graph that has grown
still-there : (g g' : Graph) → Extends g g' → (k : ℕ) → k < length g → k < length g'
still-there g g' e k l = let m = longer g g' e in omega arith

module _ (D : ℕ → ℕ → Type 0) (p : Points) (h : Sound D p) (t n : ℕ) (f : JustRaised p t n) where
  stands-at : (own : ThreadPoints) (history : History) → slice_get p.threads t ≡ Some own → slice_get p.places n ≡ Some (Keeps history) → Stands (D n) t (scene_of p own history)
  stands-at own history d e = (apart-at D p h n history e, f own history d e)

  load-sound : (slot : ℕ) (order : Ordering) → MayRead p t n (Load order) slot → IfOk (points_after_load p t n slot order) (λ after. Sound D after.points)
  load-sound slot order m = access-if p h.five (λ after. Sound D after.points) t n (λ s. load_step t s slot order) (λ own history d e.
      let s = scene_of p own history in
      let read = scene_read t (scene_recorded_load s) slot in
      let sync = (in_slot history.stores slot).sync in
      let stands = stands-loaded (D n) t read sync order (stands-read (D n) t (scene_recorded_load s) slot (chosen-free p t n (Load order) slot own history d e m) (stands-at own history d e)) in
      if-passed _ s (history.mutations ∷ []) _ p t n (sound-access D p h t n (scene_loaded read sync order) (extends-grown (grown-joined (scene_read-grown t (scene_recorded_load s) slot) (scene_loaded-grown t read sync order))) stands.1.there stands.0))

  store-sound : (value : ℕ) (order : Ordering) → IfOk (points_after_store p t n value order) (λ after. Sound D after.points)
  store-sound value order = access-if p h.five (λ after. Sound D after.points) t n (λ s. store_step t s value order) (λ own history d e.
      let s = scene_of p own history in
      let last = scene_made t (scene_recorded_store s) value None order in
      let grown : Extends p.graph last.graph = extends-grown (scene_made-grown t (scene_recorded_store s) value None order) in
      if-passed _ s (history.mutations ∷ history.unsync_loads ∷ []) _ p t n (if-room _ s _ p t n (sound-access D p h t n last grown (still-there p.graph last.graph grown own.present (there-at D p h t own d)) (apart-stored (D n) t (scene_recorded_store s) value None order (stands-at own history d e)))))

  update_write-sound : (slot value : ℕ) (order : Ordering) → IfOk (points_after_update_write p t n slot value order) (λ after. Sound D after.points)
  update_write-sound slot value order = access-if p h.five (λ after. Sound D after.points) t n (λ s. update_write_step t s slot value order) (λ own history d e.
      let s = scene_of p own history in
      let sync = (in_slot history.stores slot).sync in
      let loaded = scene_loaded (scene_recorded_store s) sync order in
      let stands = stands-loaded (D n) t (scene_recorded_store s) sync order (stands-at own history d e) in
      let last = scene_made t loaded value (Some sync) order in
      let more = scene_made-grown t loaded value (Some sync) order in
      let grown : Extends p.graph last.graph = extends-grown (grown-joined (scene_loaded-grown t (scene_recorded_store s) sync order) more) in
      if-passed _ s (history.mutations ∷ history.unsync_loads ∷ []) _ p t n (if-room _ s _ p t n (sound-access D p h t n last grown (still-there loaded.graph last.graph (extends-grown more) loaded.thread.present stands.1.there) (apart-stored (D n) t loaded value (Some sync) order stands))))

  -- a thread that has read for a read-modify-write has still just raised, as far as that atomic goes
  update_read-sound : (slot : ℕ) → MayRead p t n Update slot → IfOk (points_after_update_read p t n slot) (λ after. Sound D after.points × JustRaised after.points t n)
  update_read-sound slot m = access-if p h.five (λ after. Sound D after.points × JustRaised after.points t n) t n (λ s. update_read_step t s slot) (λ own history d e.
      let s = scene_of p own history in
      let last = scene_read t (scene_recorded_load s) slot in
      let grown : Extends p.graph last.graph = extends-grown (scene_read-grown t (scene_recorded_load s) slot) in
      let stands = stands-read (D n) t (scene_recorded_load s) slot (chosen-free p t n Update slot own history d e m) (stands-at own history d e) in
      let there : slice_get (slice_set p.threads t own) t ≡ Some own = get-set_same p.threads t own (slice_get_within p.threads t own d) in
      let stood : slice_get (slice_set p.places n (Keeps last.history)) n ≡ Some (Keeps last.history) = get-set_same p.places n (Keeps last.history) (slice_get_within p.places n (Keeps history) e) in
      if-passed _ s (history.mutations ∷ []) _ p t n (
        sound-access D p h t n last grown stands.1.there stands.0,
        λ other kept d' e'.
            let same_one : other ≡ own = cc in
            let same_history : kept ≡ last.history = kept-same kept last.history (sym e' ∙ stood) in
            rw (same_one, same_history) stands.1,
      ))
    where
      kept-same : (a b : History) → ◌≡◌ {A = Option Place} (Some (Keeps a)) (Some (Keeps b)) → a ≡ b
      kept-same a b q = cc

fence-sound : (D : ℕ → ℕ → Type 0) (p : Points) → Sound D p → (t : ℕ) (order : Ordering) → Sound D (points_after_fence p t order)
fence-sound D p h t Relaxed = h
fence-sound D p h t Acquire = acquire_fence-sound D p h t (slice_get p.threads t) refl
fence-sound D p h t Release = release_fence-sound D p h t (slice_get p.threads t) refl
fence-sound D p h t AcqRel =
    let one = points_after_acquire_fence p t in
    release_fence-sound D one (acquire_fence-sound D p h t (slice_get p.threads t) refl) t (slice_get one.threads t) refl
fence-sound D p h t SeqCst =
    let one = points_after_acquire_fence p t in
    let two = points_after_release_fence one t in
    meet-sound D two (release_fence-sound D one (acquire_fence-sound D p h t (slice_get p.threads t) refl) t (slice_get one.threads t) refl) t (slice_get two.threads t)

-- a raise, and what the thread does then
module _ (D : ℕ → ℕ → Type 0) (p raised : Points) (t : ℕ) (h : Sound D p) (r : points_after_raise p t ≡ Ok raised) where
  pub first : Sound D raised
  first = raise-sound D p h t raised (raise-leads p raised t r)

  pub fresh : (n : ℕ) → JustRaised raised t n
  fresh n = raise-fresh D p h t n raised (raise-leads p raised t r)

  pub read-first : (n slot : ℕ) (read : Accessed) → MayRead raised t n Update slot → points_after_update_read raised t n slot ≡ Ok read → Sound D read.points × JustRaised read.points t n
  read-first n slot read m e = from-ok (λ (after : Accessed). Sound D after.points × JustRaised after.points t n) (points_after_update_read raised t n slot) read e (update_read-sound D raised first t n (fresh n) slot m)

  then-update : (n slot value : ℕ) (order : Ordering) (read after : Accessed) → MayRead raised t n Update slot → points_after_update_read raised t n slot ≡ Ok read → points_after_update_write read.points t n slot value order ≡ Ok after → Sound D after.points
  then-update n slot value order read after m d e =
      let k = read-first n slot read m d in
      from-ok (λ (after : Accessed). Sound D after.points) (points_after_update_write read.points t n slot value order) after e (update_write-sound D read.points k.0 t n k.1 slot value order)

  then-fail : (n slot : ℕ) (order : Ordering) (read : Accessed) → MayRead raised t n Update slot → points_after_update_read raised t n slot ≡ Ok read → Sound D (update_fail_by read.points t slot order (slice_get read.points.threads t) (slice_get read.points.places n))
  then-fail n slot order read m d =
      let k = read-first n slot read m d in
      update_fail-sound D read.points k.0 t slot order (slice_get read.points.threads t) (slice_get read.points.places n) refl

  then-record : (result : Result Points FailureKind) (after : Points) → result ≡ Ok after → IfOk result (λ after. Sound D after) → Sound D after
  then-record result after e k = from-ok (λ (after : Points). Sound D after) result after e k

  then-access : (result : Result Accessed FailureKind) (after : Accessed) → result ≡ Ok after → IfOk result (λ after. Sound D after.points) → Sound D after.points
  then-access result after e k = from-ok (λ (after : Accessed). Sound D after.points) result after e k

pub move-sound : (D : ℕ → ℕ → Type 0) (p q : Points) → Sound D p → (m : Moves p q) → ReadsReadable p q m → Sound D q
move-sound D p _ h (acquire t n) k = acquire-sound D p h t (slice_get p.threads t) (slice_get p.places n)
move-sound D p _ h (release t n order) k = release-sound D p h n order (slice_get p.threads t) (slice_get p.places n) refl
move-sound D p _ h (join t u) k = join-sound D p h t (slice_get p.threads t) (slice_get p.threads u)
move-sound D p _ h (yielding t) k = yield-sound D p h t (slice_get p.threads t) refl
move-sound D p _ h (spawn t after e) k = from-ok (λ (after : Points). Sound D after) (points_after_spawn p t) after e (spawn-sound D p h t (slice_get p.threads t))
move-sound D p _ h (fence t order raised e) k = fence-sound D raised (first D p raised t h e) t order
move-sound D p _ h new_point k = sound-new D p h (moved p.graph []) (Meets (length p.graph)) (extends-more _ p.graph p.graph (extends-itself p.graph)) (no-next D p h)
move-sound D p _ h new_stamp k = sound-quiet D p h (moved p.graph []) (p.stamps ++ length p.graph ∷ []) p.global (extends-more _ p.graph p.graph (extends-itself p.graph))
move-sound D p _ h (stamp n m) k = stamp-sound D p h m (slice_get p.places n)
move-sound D p _ h (release_to_stamp t m order) k = stamp_release-sound D p h m order (slice_get p.threads t) (slice_get p.stamps m)
move-sound D p _ h (acquire_from_stamp t m) k = stamp_acquire-sound D p h t (slice_get p.threads t) (slice_get p.stamps m)
move-sound D p _ h (new_atomic t value) k = atomic-sound D p h t value (slice_get p.threads t) refl
move-sound D p _ h (load t n slot order raised after d e) k = then-access D p raised t h d _ after e (load-sound D raised (first D p raised t h d) t n (fresh D p raised t h d n) slot order k)
move-sound D p _ h (store t n value order raised after d e) k = then-access D p raised t h d _ after e (store-sound D raised (first D p raised t h d) t n (fresh D p raised t h d n) value order)
move-sound D p _ h (update t n slot value order raised read after c d e) k = then-update D p raised t h c n slot value order read after k d e
move-sound D p _ h (update_fail t n slot order raised read c d) k = then-fail D p raised t h c n slot order read k d
move-sound D p _ h (unsync_load t n after e) k = from-ok (λ (after : Accessed). Sound D after.points) (points_after_unsync_load p t n) after e (unsync_load-sound D p h t n)
move-sound D p _ h (with_mut t n after e) k = from-ok (λ (after : Accessed). Sound D after.points) (points_after_with_mut p t n) after e (with_mut-sound D p h t n)
move-sound D p _ h (with_mut_end t n value after e) k = from-ok (λ (after : Accessed). Sound D after.points) (points_after_with_mut_end p t n value) after e (with_mut_end-sound D p h t n value)
move-sound D p _ h (new_cell t) k = cell-sound D p h (slice_get p.threads t)
move-sound D p _ h (begin_read t n raised after d e) k = then-record D p raised t h d _ after e (record-sound D raised (first D p raised t h d) n read_step (slice_get raised.threads t) (slice_get raised.places n) refl)
move-sound D p _ h (end_read t n after e) k = from-ok (λ (after : Points). Sound D after) (points_after_read p t n) after e (record-sound D p h n read_step (slice_get p.threads t) (slice_get p.places n) refl)
move-sound D p _ h (begin_write t n raised after d e) k = then-record D p raised t h d _ after e (record-sound D raised (first D p raised t h d) n write_step (slice_get raised.threads t) (slice_get raised.places n) refl)
move-sound D p _ h (end_write t n after e) k = from-ok (λ (after : Points). Sound D after) (points_after_write p t n) after e (record-sound D p h n write_step (slice_get p.threads t) (slice_get p.places n) refl)

-- no store has been passed
abbrev pub Nothing : ℕ → ℕ → Type 0
Nothing n number = ⊥

opening-sound : Sound Nothing opening
opening-sound = record { five = omega arith; there = at; apart = λ n number d. d }
  where
    at : (t : ℕ) → IsThere opening.graph (slice_get opening.threads t)
    at zero = let l : 1 < 3 = omega arith in l
    at (suc t) = tt

pub leads-on : (D : ℕ → ℕ → Type 0) (p q : Points) → Sound D p → LeadsReadably p q → Sound D q
leads-on D p _ h none = h
leads-on D p _ h (later q r l m k) = move-sound D q r (leads-on D p q h l) m k

pub leads-sound : (p : Points) → LeadsReadably opening p → Sound Nothing p
leads-sound p l = leads-on Nothing opening p opening-sound l
