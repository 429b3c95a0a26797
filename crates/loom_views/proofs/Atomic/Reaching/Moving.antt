-- Each move of a run adds points and records, and takes none away.
use Rattle.std.proofs.Common.{◌≡◌, ℕ, ◌≤◌, Bool, true, false, [], ◌∷◌, ◌++◌, length, refl, subst, arith, leb-false, length-append, Option, Some, None, Result, Ok, Err}
use Rattle.std.specs.Prelude.{IfOk, nat_lt, nat_le, if◌then◌else◌, slice_set}
use Rattle.std.specs.List.{slice_get, flat_map}
use Rattle.std.specs.declared.sync.atomic.Ordering.{Ordering}
use Rattle.std.specs.declared.sync.atomic.Ordering.TheVariants.{Relaxed, Release, Acquire, AcqRel, SeqCst}
use Rattle.std.proofs.lemmas.List.{length-set}
use Rattle.std.proofs.lemmas.Option.{slice_get_within}
use Rattle.loom_views.specs.declared.rt.failure.FailureKind.{FailureKind}
use Rattle.loom_views.specs.declared.rt.failure.FailureKind.TheVariants.{Race, TooManyThreads, TooManyVersions}
use Rattle.loom_views.specs.Graph.{Graph, raised}
use Rattle.loom_views.specs.ThreadViews.{ThreadPoints, with_present, graph_after_raise, graph_after_acquire, graph_after_release_fence, graph_after_store, graph_after_spawn, graph_with_child, child_points, parent_points}
use Rattle.loom_views.specs.Atomic.Fences.{Standing, after_stores}
use Rattle.loom_views.specs.Atomic.History.{Scene, Answer, History, new_history, in_slot, load_step, store_step, update_read_step, update_write_step, unsync_load_step, mutate_step, mutate_end_step, scene_read, scene_loaded, scene_made, scene_recorded_load, scene_recorded_store, scene_recorded_mutation, with_newest}
use Rattle.loom_views.specs.CellAccesses.{Accesses, read_step, write_step}
use Rattle.loom_views.specs.Views.{Place, Meets, Keeps, Records, Points, Accessed, stores_at, with_thread, with_place, scene_of, points_of, accessed, access, access_by, recorded, record_by, acquire_by, release_by, stamp_by, stamp_release_by, stamp_acquire_by, fence_by, yield_by, spawn_by, join_by, add_atomic_by, add_cell_by, update_fail_by, acquire_fence_by, meet_by, points_after_raise, points_after_fence, points_after_acquire_fence, points_after_release_fence, points_after_load, points_after_store, points_after_update_read, points_after_update_write, points_after_unsync_load, points_after_with_mut, points_after_with_mut_end, points_after_read, points_after_write, points_after_spawn}
use Rattle.loom_views.proofs.Views.Growth.{GrownBy, same, quiet, raising, grown-joined}
use Rattle.loom_views.proofs.Atomic.Growth.{scene_read-grown, scene_loaded-grown, scene_made-grown}
use Rattle.loom_views.proofs.Atomic.Table.Lists.{get-set_same}
use Rattle.loom_views.proofs.Atomic.Table.Fences.{after_stores-grown}
use Rattle.loom_views.specs.Laws.Moves.{Moves, Leads, acquire, release, join, yielding, spawn, fence, new_point, new_stamp, stamp, release_to_stamp, acquire_from_stamp, new_atomic, load, store, update, update_fail, unsync_load, with_mut, with_mut_end, new_cell, begin_read, end_read, begin_write, end_write, none, later}
use Rattle.loom_views.specs.Laws.Reaching.{Extends, is_raising}
use Rattle.loom_views.proofs.Atomic.Reaching.Raising.{extends-itself, extends-more, extends-grown, raising-extends, new-raises, Raised, raise-leads}
use Rattle.loom_views.proofs.Atomic.Reaching.Beginning.{if-passed, if-room}
use Rattle.loom_views.proofs.Atomic.Reaching.Adding.{Adds, More, MoreRaising, more-none, raising-none, raising-one, adds-joined, adds-quiet, adds-same, adds-set, adds-new}

-- what holds wherever a move leads holds where it led
pub from-ok : {A : Type 0} (P : A → Type 0) (r : Result A FailureKind) (x : A) → r ≡ Ok x → IfOk r P → P x
from-ok {A} P (Ok y) x e h = let d : ◌≡◌ {A = A} y x = cc in subst P d h
from-ok P (Err kind) x e h = absurd (cc)

-- thread t's present point raises
abbrev IsAtRaising : Points → ℕ → Type 0
IsAtRaising p t = (own : ThreadPoints) → slice_get p.threads t ≡ Some own → is_raising p.graph own.present ≡ true

module _ (p : Points) (five : length p.threads ≤ 5) where
  -- a thread moves
  thread-adds : (t : ℕ) (g : Graph) (own : ThreadPoints) → Extends p.graph g → Adds p (with_thread p t g own)
  thread-adds t g own h = adds-quiet p (with_thread p t g own) h (omega (arith, length-set p.threads t own)) refl

  grown-adds : (t : ℕ) (g : Graph) (own : ThreadPoints) → GrownBy t p.graph g → Adds p (with_thread p t g own)
  grown-adds t g own h = thread-adds t g own (extends-grown h)

  pub raise-adds : (t : ℕ) (q : Points) → Raised p q t → Adds p q
  raise-adds t q r = rw r.to (grown-adds t (graph_after_raise p.graph r.own t) (with_present p.graph r.own) (raising (r.own.present ∷ []) same))

  raise-at : (t : ℕ) (q : Points) → Raised p q t → IsAtRaising q t
  raise-at t q r = rw r.to at
    where
      new : ThreadPoints
      new = with_present p.graph r.own

      at : IsAtRaising (with_thread p t (graph_after_raise p.graph r.own t) new) t
      at own e =
          let there : slice_get (slice_set p.threads t new) t ≡ Some new = get-set_same p.threads t new r.there in
          let d : own ≡ new = cc in
          let b = r.there in
          rw d (new-raises p.graph (r.own.present ∷ []) t (omega arith))

  acquire-adds : (t : ℕ) (o : Option ThreadPoints) (q : Option Place) → Adds p (acquire_by p t o q)
  acquire-adds t None q = adds-same p five
  acquire-adds t (Some own) None = adds-same p five
  acquire-adds t (Some own) (Some (Keeps history)) = adds-same p five
  acquire-adds t (Some own) (Some (Records cell)) = adds-same p five
  acquire-adds t (Some own) (Some (Meets k)) = grown-adds t (graph_after_acquire p.graph own k) (with_present p.graph own) (quiet (own.present ∷ k ∷ []) same)

  join-adds : (t : ℕ) (o q : Option ThreadPoints) → Adds p (join_by p t o q)
  join-adds t None q = adds-same p five
  join-adds t (Some own) None = adds-same p five
  join-adds t (Some own) (Some other) = grown-adds t (graph_after_acquire p.graph own other.present) (with_present p.graph own) (quiet (own.present ∷ other.present ∷ []) same)

  release-adds : (n : ℕ) (order : Ordering) (o : Option ThreadPoints) (q : Option Place) → slice_get p.places n ≡ q → Adds p (release_by p n order o q)
  release-adds n order None q e = adds-same p five
  release-adds n order (Some own) None e = adds-same p five
  release-adds n order (Some own) (Some (Keeps history)) e = adds-same p five
  release-adds n order (Some own) (Some (Records cell)) e = adds-same p five
  release-adds n order (Some own) (Some (Meets k)) e =
      let g = graph_after_store p.graph own k order in
      let grown : GrownBy 5 p.graph g = quiet _ same in
      adds-set p (with_place p n g (Meets (length p.graph))) n (Meets k) (Meets (length p.graph)) (extends-grown grown) five e refl (record { reads = more-none []; writes = more-none []; loads = raising-none g []; stored = raising-none g [] })

  -- stamps are written in their places, and no object changes
  stamp_write-adds : (m k : ℕ) (g : Graph) → Extends p.graph g → Adds p (record p { graph = g; stamps = slice_set p.stamps m k })
  stamp_write-adds m k g h = adds-quiet p _ h five refl

  stamp-adds : (m : ℕ) (q : Option Place) → Adds p (stamp_by p m q)
  stamp-adds m None = adds-same p five
  stamp-adds m (Some (Keeps history)) = adds-same p five
  stamp-adds m (Some (Records cell)) = adds-same p five
  stamp-adds m (Some (Meets k)) = stamp_write-adds m k p.graph (extends-itself p.graph)

  stamp_release-adds : (m : ℕ) (order : Ordering) (o : Option ThreadPoints) (q : Option ℕ) → Adds p (stamp_release_by p m order o q)
  stamp_release-adds m order None q = adds-same p five
  stamp_release-adds m order (Some own) None = adds-same p five
  stamp_release-adds m order (Some own) (Some k) =
      let g = graph_after_store p.graph own k order in
      let grown : GrownBy 5 p.graph g = quiet _ same in
      stamp_write-adds m (length p.graph) g (extends-grown grown)

  stamp_acquire-adds : (t : ℕ) (o : Option ThreadPoints) (q : Option ℕ) → Adds p (stamp_acquire_by p t o q)
  stamp_acquire-adds t None q = adds-same p five
  stamp_acquire-adds t (Some own) None = adds-same p five
  stamp_acquire-adds t (Some own) (Some k) = grown-adds t (graph_after_acquire p.graph own k) (with_present p.graph own) (quiet (own.present ∷ k ∷ []) same)

  release_fence-adds : (t : ℕ) (o : Option ThreadPoints) → Adds p (fence_by p t o)
  release_fence-adds t None = adds-same p five
  release_fence-adds t (Some own) = grown-adds t (graph_after_release_fence p.graph own) (record own { released = length p.graph }) (quiet (own.released ∷ own.present ∷ []) same)

  acquire_fence-adds : (t : ℕ) (o : Option ThreadPoints) → Adds p (acquire_fence_by p t o)
  acquire_fence-adds t None = adds-same p five
  acquire_fence-adds t (Some own) =
      let start : Standing = record { graph = p.graph; thread = own } in
      let fenced = after_stores start (flat_map stores_at p.places) in
      grown-adds t fenced.graph fenced.thread (after_stores-grown t start (flat_map stores_at p.places))

  meet-adds : (t : ℕ) (o : Option ThreadPoints) → Adds p (meet_by p t o)
  meet-adds t None = adds-same p five
  meet-adds t (Some own) =
      let grown : GrownBy t p.graph (meet_by p t (Some own)).graph = quiet (p.global ∷ length p.graph ∷ []) (quiet (own.present ∷ p.global ∷ []) same) in
      adds-quiet p (meet_by p t (Some own)) (extends-grown grown) (omega (arith, length-set p.threads t (with_present p.graph own))) refl

  yield-adds : (t : ℕ) (o : Option ThreadPoints) → Adds p (yield_by p t o)
  yield-adds t None = adds-same p five
  yield-adds t (Some own) = thread-adds t p.graph (record own { yielded = Some own.present }) (extends-itself p.graph)

  atomic-adds : (t value : ℕ) (o : Option ThreadPoints) → Adds p (add_atomic_by p t value o)
  atomic-adds t value None = adds-same p five
  atomic-adds t value (Some own) =
      let start : Scene = record { graph = p.graph; thread = own; history = new_history own.present } in
      let made = scene_made t start value None Release in
      adds-new p _ (Keeps made.history) (extends-grown (scene_made-grown t start value None Release)) five refl refl refl

  cell-adds : (o : Option ThreadPoints) → Adds p (add_cell_by p o)
  cell-adds None = adds-same p five
  cell-adds (Some own) = adds-new p _ (Records _) (extends-itself p.graph) five refl refl refl

  point-adds : Adds p (record p { graph = record { after = []; raises = None } ∷ p.graph; places = p.places ++ Meets (length p.graph) ∷ [] })
  point-adds = adds-new p _ (Meets (length p.graph)) (extends-more _ p.graph p.graph (extends-itself p.graph)) five refl refl refl

  new_stamp-adds : Adds p (record p { graph = record { after = []; raises = None } ∷ p.graph; stamps = p.stamps ++ length p.graph ∷ [] })
  new_stamp-adds = adds-quiet p _ (extends-more _ p.graph p.graph (extends-itself p.graph)) five refl

  spawn-adds : (t : ℕ) (o : Option ThreadPoints) → IfOk (spawn_by p t o) (λ after. Adds p after)
  spawn-adds t None = tt
  spawn-adds t (Some own) = full (nat_le 5 (length p.threads)) refl
    where
      after : Points
      after = record p { graph = graph_after_spawn p.graph own t (length p.threads); threads = slice_set p.threads t (parent_points p.graph own) ++ child_points p.graph ∷ [] }

      led : nat_le 5 (length p.threads) ≡ false → Adds p after
      led e =
          let many : length (slice_set p.threads t (parent_points p.graph own) ++ child_points p.graph ∷ []) ≤ 5 = omega (arith, leb-false 5 (length p.threads) e, length-set p.threads t (parent_points p.graph own), length-append (slice_set p.threads t (parent_points p.graph own)) (child_points p.graph ∷ [])) in
          let child = extends-more _ p.graph (record { after = []; raises = None } ∷ p.graph) (extends-more _ p.graph p.graph (extends-itself p.graph)) in
          adds-quiet p _ (extends-more _ p.graph (graph_with_child p.graph own (length p.threads)) child) many refl

      room : Adds p after → (a : Bool) → IfOk (if a then Ok after else Err TooManyVersions) (λ after. Adds p after)
      room h true = h
      room h false = tt

      full : (a : Bool) → nat_le 5 (length p.threads) ≡ a → IfOk (if a then Err TooManyThreads else (if nat_lt (length (raised p.graph t)) 65534 then Ok after else Err TooManyVersions)) (λ after. Adds p after)
      full true e = tt
      full false e = room (led e) (nat_lt (length (raised p.graph t)) 65534)

  update_fail-adds : (t slot : ℕ) (order : Ordering) (o : Option ThreadPoints) (q : Option Place) → Adds p (update_fail_by p t slot order o q)
  update_fail-adds t slot order None q = adds-same p five
  update_fail-adds t slot order (Some own) None = adds-same p five
  update_fail-adds t slot order (Some own) (Some (Meets k)) = adds-same p five
  update_fail-adds t slot order (Some own) (Some (Records cell)) = adds-same p five
  update_fail-adds t slot order (Some own) (Some (Keeps history)) =
      let s = scene_of p own history in
      grown-adds t _ _ (scene_loaded-grown t s (in_slot history.stores slot).sync order)

  -- a cell's records
  record-adds : (n : ℕ) (step : Graph → ℕ → Accesses → Result Accesses FailureKind) → ((a : ℕ) (cell : Accesses) → IfOk (step p.graph a cell) (λ after. More cell.reads after.reads × More cell.writes after.writes)) → (o : Option ThreadPoints) (q : Option Place) → slice_get p.places n ≡ q → IfOk (record_by p n step o q) (λ after. Adds p after)
  record-adds n step h None q e = tt
  record-adds n step h (Some own) None e = tt
  record-adds n step h (Some own) (Some (Meets k)) e = tt
  record-adds n step h (Some own) (Some (Keeps history)) e = tt
  record-adds n step h (Some own) (Some (Records cell)) e = led (step p.graph own.present cell) (h own.present cell)
    where
      led : (r : Result Accesses FailureKind) → IfOk r (λ after. More cell.reads after.reads × More cell.writes after.writes) → IfOk (recorded p n r) (λ after. Adds p after)
      led (Ok after) k = adds-set p (with_place p n p.graph (Records after)) n (Records cell) (Records after) (extends-itself p.graph) five e refl (record { reads = k.0; writes = k.1; loads = raising-none p.graph []; stored = raising-none p.graph [] })
      led (Err kind) k = tt

  pub read-adds : (t n : ℕ) → IfOk (points_after_read p t n) (λ after. Adds p after)
  read-adds t n = record-adds n read_step (λ a cell. tested a cell _) (slice_get p.threads t) (slice_get p.places n) refl
    where
      tested : (a : ℕ) (cell : Accesses) (b : Bool) → IfOk (if b then Err Race else Ok (record cell { reads = cell.reads ++ a ∷ [] })) (λ after. More cell.reads after.reads × More cell.writes after.writes)
      tested a cell true = tt
      tested a cell false = (record { more = a ∷ []; is = refl }, more-none cell.writes)

  pub write-adds : (t n : ℕ) → IfOk (points_after_write p t n) (λ after. Adds p after)
  write-adds t n = record-adds n write_step (λ a cell. tested a cell _) (slice_get p.threads t) (slice_get p.places n) refl
    where
      tested : (a : ℕ) (cell : Accesses) (b : Bool) → IfOk (if b then Err Race else Ok (record cell { writes = cell.writes ++ a ∷ [] })) (λ after. More cell.reads after.reads × More cell.writes after.writes)
      tested a cell true = tt
      tested a cell false = (more-none cell.reads, record { more = a ∷ []; is = refl })

  -- an access of an atomic, by what it does where there is one
  pub access-if : (P : Accessed → Type 0) (t n : ℕ) (step : Scene → Result Answer FailureKind) → ((own : ThreadPoints) (history : History) → slice_get p.threads t ≡ Some own → slice_get p.places n ≡ Some (Keeps history) → IfOk (accessed p t n (step (scene_of p own history))) P) → IfOk (access p t n step) P
  access-if P t n step h = go (slice_get p.threads t) (slice_get p.places n) refl refl
    where
      go : (o : Option ThreadPoints) (q : Option Place) → slice_get p.threads t ≡ o → slice_get p.places n ≡ q → IfOk (access_by p t n step o q) P
      go None q d e = tt
      go (Some own) None d e = tt
      go (Some own) (Some (Meets k)) d e = tt
      go (Some own) (Some (Records cell)) d e = tt
      go (Some own) (Some (Keeps history)) d e = h own history d e

  -- it leads to a scene with more loads and stores
  scene-adds : (t n : ℕ) (history : History) (s : Scene) → slice_get p.places n ≡ Some (Keeps history) → Extends p.graph s.graph → MoreRaising s.graph history.loads s.history.loads → MoreRaising s.graph history.stored s.history.stored → Adds p (points_of p t n s)
  scene-adds t n history s e h loads stored = adds-set p (points_of p t n s) n (Keeps history) (Keeps s.history) h (omega (arith, length-set p.threads t s.thread)) e refl (record { reads = more-none []; writes = more-none []; loads = loads; stored = stored })

  load-adds : (t n slot : ℕ) (order : Ordering) → IsAtRaising p t → IfOk (points_after_load p t n slot order) (λ after. Adds p after.points)
  load-adds t n slot order at = access-if (λ after. Adds p after.points) t n (λ s. load_step t s slot order) (λ own history d e.
      let s = scene_of p own history in
      let read = scene_read t (scene_recorded_load s) slot in
      let sync = (in_slot history.stores slot).sync in
      let last = scene_loaded read sync order in
      let grown : Extends p.graph last.graph = extends-grown (grown-joined (scene_read-grown t (scene_recorded_load s) slot) (scene_loaded-grown t read sync order)) in
      if-passed _ s (history.mutations ∷ []) _ p t n (scene-adds t n history last e grown (raising-one last.graph history.loads own.present (raising-extends p.graph last.graph own.present grown (at own d))) (raising-none last.graph history.stored)))

  store-adds : (t n value : ℕ) (order : Ordering) → IsAtRaising p t → IfOk (points_after_store p t n value order) (λ after. Adds p after.points)
  store-adds t n value order at = access-if (λ after. Adds p after.points) t n (λ s. store_step t s value order) (λ own history d e.
      let s = scene_of p own history in
      let last = scene_made t (scene_recorded_store s) value None order in
      let grown : Extends p.graph last.graph = extends-grown (scene_made-grown t (scene_recorded_store s) value None order) in
      if-passed _ s (history.mutations ∷ history.unsync_loads ∷ []) _ p t n (if-room _ s _ p t n (scene-adds t n history last e grown (raising-none last.graph history.loads) (raising-one last.graph history.stored own.present (raising-extends p.graph last.graph own.present grown (at own d))))))

  update_write-adds : (t n slot value : ℕ) (order : Ordering) → IsAtRaising p t → IfOk (points_after_update_write p t n slot value order) (λ after. Adds p after.points)
  update_write-adds t n slot value order at = access-if (λ after. Adds p after.points) t n (λ s. update_write_step t s slot value order) (λ own history d e.
      let s = scene_of p own history in
      let sync = (in_slot history.stores slot).sync in
      let loaded = scene_loaded (scene_recorded_store s) sync order in
      let last = scene_made t loaded value (Some sync) order in
      let grown : Extends p.graph last.graph = extends-grown (grown-joined (scene_loaded-grown t (scene_recorded_store s) sync order) (scene_made-grown t loaded value (Some sync) order)) in
      if-passed _ s (history.mutations ∷ history.unsync_loads ∷ []) _ p t n (if-room _ s _ p t n (scene-adds t n history last e grown (raising-none last.graph history.loads) (raising-one last.graph history.stored own.present (raising-extends p.graph last.graph own.present grown (at own d))))))

  -- a thread that has read for a read-modify-write is still where it raised
  update_read-adds : (t n slot : ℕ) → IsAtRaising p t → IfOk (points_after_update_read p t n slot) (λ after. Adds p after.points × IsAtRaising after.points t)
  update_read-adds t n slot at = access-if (λ after. Adds p after.points × IsAtRaising after.points t) t n (λ s. update_read_step t s slot) (λ own history d e.
      let s = scene_of p own history in
      let last = scene_read t (scene_recorded_load s) slot in
      let grown : Extends p.graph last.graph = extends-grown (scene_read-grown t (scene_recorded_load s) slot) in
      let raises : is_raising last.graph own.present ≡ true = raising-extends p.graph last.graph own.present grown (at own d) in
      let there : slice_get (slice_set p.threads t own) t ≡ Some own = get-set_same p.threads t own (slice_get_within p.threads t own d) in
      if-passed _ s (history.mutations ∷ []) _ p t n (scene-adds t n history last e grown (raising-one last.graph history.loads own.present raises) (raising-none last.graph history.stored), λ other f. let same_one : other ≡ own = cc in rw same_one raises))

  -- accesses that don't synchronize
  unsync_load-adds : (t n : ℕ) → IfOk (points_after_unsync_load p t n) (λ after. Adds p after.points)
  unsync_load-adds t n = access-if (λ after. Adds p after.points) t n unsync_load_step (λ own history d e.
      if-passed _ (scene_of p own history) (history.mutations ∷ history.stored ∷ []) _ p t n (scene-adds t n history _ e (extends-itself p.graph) (raising-none p.graph history.loads) (raising-none p.graph history.stored)))

  with_mut-adds : (t n : ℕ) → IfOk (points_after_with_mut p t n) (λ after. Adds p after.points)
  with_mut-adds t n = access-if (λ after. Adds p after.points) t n mutate_step (λ own history d e.
      if-passed _ (scene_of p own history) (history.loads ∷ history.unsync_loads ∷ history.stored ∷ history.mutations ∷ []) _ p t n (scene-adds t n history _ e (extends-itself p.graph) (raising-none p.graph history.loads) (raising-none p.graph history.stored)))

  with_mut_end-adds : (t n value : ℕ) → IfOk (points_after_with_mut_end p t n value) (λ after. Adds p after.points)
  with_mut_end-adds t n value = access-if (λ after. Adds p after.points) t n (λ s. mutate_end_step s value) (λ own history d e.
      let s = scene_of p own history in
      let closed : Scene = record s { history = record s.history { mutating = false; stores = with_newest history.stores value } } in
      let last : Scene = scene_recorded_mutation closed in
      let ended : Result Answer FailureKind = Ok (record { scene = last; value = value }) in
      if-passed (λ after. Adds p after.points) closed (history.loads ∷ history.unsync_loads ∷ history.stored ∷ history.mutations ∷ []) ended p t n (scene-adds t n history last e (extends-itself p.graph) (raising-none p.graph history.loads) (raising-none p.graph history.stored)))

fence-adds : (p : Points) → length p.threads ≤ 5 → (t : ℕ) (order : Ordering) → Adds p (points_after_fence p t order)
fence-adds p five t Relaxed = adds-same p five
fence-adds p five t Acquire = acquire_fence-adds p five t (slice_get p.threads t)
fence-adds p five t Release = release_fence-adds p five t (slice_get p.threads t)
fence-adds p five t AcqRel =
    let one = points_after_acquire_fence p t in
    let h = acquire_fence-adds p five t (slice_get p.threads t) in
    adds-joined p one _ h (release_fence-adds one h.five t (slice_get one.threads t))
fence-adds p five t SeqCst =
    let one = points_after_acquire_fence p t in
    let h = acquire_fence-adds p five t (slice_get p.threads t) in
    let two = points_after_release_fence one t in
    let k = release_fence-adds one h.five t (slice_get one.threads t) in
    adds-joined p one _ h (adds-joined one two _ k (meet-adds two k.five t (slice_get two.threads t)))

-- a raise, and what the thread does then
module _ (p raised : Points) (t : ℕ) (five : length p.threads ≤ 5) (r : points_after_raise p t ≡ Ok raised) where
  first : Adds p raised
  first = raise-adds p five t raised (raise-leads p raised t r)

  at : IsAtRaising raised t
  at = raise-at p five t raised (raise-leads p raised t r)

  then-access : (result : Result Accessed FailureKind) (after : Accessed) → result ≡ Ok after → IfOk result (λ after. Adds raised after.points) → Adds p after.points
  then-access result after e h = adds-joined p raised after.points first (from-ok (λ (after : Accessed). Adds raised after.points) result after e h)

  then-record : (result : Result Points FailureKind) (after : Points) → result ≡ Ok after → IfOk result (λ after. Adds raised after) → Adds p after
  then-record result after e h = adds-joined p raised after first (from-ok (λ (after : Points). Adds raised after) result after e h)

  read-first : (n slot : ℕ) (read : Accessed) → points_after_update_read raised t n slot ≡ Ok read → Adds raised read.points × IsAtRaising read.points t
  read-first n slot read e = from-ok (λ (after : Accessed). Adds raised after.points × IsAtRaising after.points t) (points_after_update_read raised t n slot) read e (update_read-adds raised first.five t n slot at)

  then-update : (n slot value : ℕ) (order : Ordering) (read after : Accessed) → points_after_update_read raised t n slot ≡ Ok read → points_after_update_write read.points t n slot value order ≡ Ok after → Adds p after.points
  then-update n slot value order read after d e =
      let h = read-first n slot read d in
      adds-joined p raised after.points first (adds-joined raised read.points after.points h.0 (from-ok (λ (after : Accessed). Adds read.points after.points) (points_after_update_write read.points t n slot value order) after e (update_write-adds read.points h.0.five t n slot value order h.1)))

  then-fail : (n slot : ℕ) (order : Ordering) (read : Accessed) → points_after_update_read raised t n slot ≡ Ok read → Adds p (update_fail_by read.points t slot order (slice_get read.points.threads t) (slice_get read.points.places n))
  then-fail n slot order read d =
      let h = read-first n slot read d in
      adds-joined p raised _ first (adds-joined raised read.points _ h.0 (update_fail-adds read.points h.0.five t slot order (slice_get read.points.threads t) (slice_get read.points.places n)))

pub move-adds : (p q : Points) → length p.threads ≤ 5 → Moves p q → Adds p q
move-adds p _ five (acquire t n) = acquire-adds p five t (slice_get p.threads t) (slice_get p.places n)
move-adds p _ five (release t n order) = release-adds p five n order (slice_get p.threads t) (slice_get p.places n) refl
move-adds p _ five (join t u) = join-adds p five t (slice_get p.threads t) (slice_get p.threads u)
move-adds p _ five (yielding t) = yield-adds p five t (slice_get p.threads t)
move-adds p _ five (spawn t after e) = from-ok (λ (after : Points). Adds p after) (points_after_spawn p t) after e (spawn-adds p five t (slice_get p.threads t))
move-adds p _ five (fence t order raised e) = adds-joined p raised _ (first p raised t five e) (fence-adds raised (first p raised t five e).five t order)
move-adds p _ five new_point = point-adds p five
move-adds p _ five new_stamp = new_stamp-adds p five
move-adds p _ five (stamp n m) = stamp-adds p five m (slice_get p.places n)
move-adds p _ five (release_to_stamp t m order) = stamp_release-adds p five m order (slice_get p.threads t) (slice_get p.stamps m)
move-adds p _ five (acquire_from_stamp t m) = stamp_acquire-adds p five t (slice_get p.threads t) (slice_get p.stamps m)
move-adds p _ five (new_atomic t value) = atomic-adds p five t value (slice_get p.threads t)
move-adds p _ five (load t n slot order raised after d e) = then-access p raised t five d _ after e (load-adds raised (first p raised t five d).five t n slot order (at p raised t five d))
move-adds p _ five (store t n value order raised after d e) = then-access p raised t five d _ after e (store-adds raised (first p raised t five d).five t n value order (at p raised t five d))
move-adds p _ five (update t n slot value order raised read after c d e) = then-update p raised t five c n slot value order read after d e
move-adds p _ five (update_fail t n slot order raised read c d) = then-fail p raised t five c n slot order read d
move-adds p _ five (unsync_load t n after e) = from-ok (λ (after : Accessed). Adds p after.points) (points_after_unsync_load p t n) after e (unsync_load-adds p five t n)
move-adds p _ five (with_mut t n after e) = from-ok (λ (after : Accessed). Adds p after.points) (points_after_with_mut p t n) after e (with_mut-adds p five t n)
move-adds p _ five (with_mut_end t n value after e) = from-ok (λ (after : Accessed). Adds p after.points) (points_after_with_mut_end p t n value) after e (with_mut_end-adds p five t n value)
move-adds p _ five (new_cell t) = cell-adds p five (slice_get p.threads t)
move-adds p _ five (begin_read t n raised after d e) = then-record p raised t five d _ after e (read-adds raised (first p raised t five d).five t n)
move-adds p _ five (end_read t n after e) = from-ok (λ (after : Points). Adds p after) (points_after_read p t n) after e (read-adds p five t n)
move-adds p _ five (begin_write t n raised after d e) = then-record p raised t five d _ after e (write-adds raised (first p raised t five d).five t n)
move-adds p _ five (end_write t n after e) = from-ok (λ (after : Points). Adds p after) (points_after_write p t n) after e (write-adds p five t n)

pub leads-add : (p q : Points) → length p.threads ≤ 5 → Leads p q → Adds p q
leads-add p _ five none = adds-same p five
leads-add p _ five (later q r l m) = let h = leads-add p q five l in adds-joined p q r h (move-adds q r h.five m)
