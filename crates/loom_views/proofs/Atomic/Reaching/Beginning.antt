-- What a thread that has raised records of its access.
use Rattle.std.proofs.Common.{◌≡◌, ℕ, Bool, true, false, ◌||◌, List, [], ◌∷◌, ◌++◌, length, refl, arith, Option, Some, None, Result, Ok, Err}
use Rattle.std.specs.Prelude.{IfOk, nat_lt, if◌then◌else◌, slice_set}
use Rattle.std.specs.List.{slice_get, list_any}
use Rattle.std.specs.declared.sync.atomic.Ordering.{Ordering}
use Rattle.std.proofs.lemmas.Option.{slice_get_within}
use Rattle.loom_views.specs.declared.rt.failure.FailureKind.{FailureKind}
use Rattle.loom_views.specs.declared.rt.failure.FailureKind.TheVariants.{Race, OpenAccess, TooManyStores}
use Rattle.loom_views.specs.Graph.{Graph}
use Rattle.loom_views.specs.ThreadViews.{ThreadPoints, with_present, graph_after_raise}
use Rattle.loom_views.specs.AccessRecords.{races}
use Rattle.loom_views.specs.Atomic.History.{Scene, Answer, History, conflicts, with_room, in_slot, load_step, store_step, update_read_step, update_write_step, scene_read, scene_loaded, scene_made, scene_recorded_load, scene_recorded_store}
use Rattle.loom_views.specs.CellAccesses.{Accesses, read_step, write_step}
use Rattle.loom_views.specs.Views.{Place, Meets, Keeps, Records, Points, Accessed, with_thread, scene_of, points_of, accessed, access_by, recorded, record_by, points_after_load, points_after_store, points_after_update_read, points_after_update_write, points_after_read, points_after_write}
use Rattle.loom_views.proofs.Views.Growth.{GrownBy, grown-joined}
use Rattle.loom_views.proofs.Atomic.Growth.{scene_read-grown, scene_loaded-grown, scene_made-grown}
use Rattle.loom_views.proofs.Atomic.Table.Lists.{get-set_same}
use Rattle.loom_views.specs.Laws.Reaching.{BeginningLaw, BeginsRaising, RecordsRaising, is_raising, reads_of, writes_of, loads_of, stored_of}
use Rattle.loom_views.proofs.Atomic.Reaching.Raising.{raise-leads, raising-extends, extends-grown, new-raises}

-- an access whose tests pass leads to what it is to lead to
pub if-passed : (P : Accessed → Type 0) (s : Scene) (kinds : List (List ℕ)) (r : Result Answer FailureKind) (p : Points) (t n : ℕ) → IfOk (accessed p t n r) P → IfOk (accessed p t n (conflicts s kinds r)) P
if-passed P s kinds r p t n h = tested s.history.mutating (list_any (λ points. races s.graph points s.thread.present) kinds)
  where
    tested : (a b : Bool) → IfOk (accessed p t n (if a then Err OpenAccess else (if b then Err Race else r))) P
    tested true b = tt
    tested false true = tt
    tested false false = h

-- where there is no room for a store it leads nowhere
pub if-room : (P : Accessed → Type 0) (s : Scene) (r : Result Answer FailureKind) (p : Points) (t n : ℕ) → IfOk (accessed p t n r) P → IfOk (accessed p t n (with_room s r)) P
if-room P s r p t n h = tested (nat_lt (length s.history.stores) 65535)
  where
    tested : (a : Bool) → IfOk (accessed p t n (if a then r else Err TooManyStores)) P
    tested true = h
    tested false = tt

-- thread t is at a point that raises
module _ (p : Points) (t n : ℕ) (own : ThreadPoints) (e : slice_get p.threads t ≡ Some own) (r : is_raising p.graph own.present ≡ true) where
  -- what a step of a cell records
  cell-recorded : (of : Option Place → List ℕ) (step : Graph → ℕ → Accesses → Result Accesses FailureKind) → ((cell : Accesses) → IfOk (step p.graph own.present cell) (λ after. of (Some (Records after)) ≡ of (Some (Records cell)) ++ own.present ∷ [])) → IfOk (record_by p n step (slice_get p.threads t) (slice_get p.places n)) (λ after. RecordsRaising of n own.present p after)
  cell-recorded of step h = rw e (go (slice_get p.places n) refl)
    where
      led : (cell : Accesses) → slice_get p.places n ≡ Some (Records cell) → (after : Result Accesses FailureKind) → IfOk after (λ after. of (Some (Records after)) ≡ of (Some (Records cell)) ++ own.present ∷ []) → IfOk (recorded p n after) (λ after. RecordsRaising of n own.present p after)
      led cell q (Ok after) k =
          let there : slice_get (slice_set p.places n (Records after)) n ≡ Some (Records after) = get-set_same p.places n (Records after) (slice_get_within p.places n (Records cell) q) in
          record { recorded = rw (there, q) k; raises = r }
      led cell q (Err kind) k = tt

      go : (o : Option Place) → slice_get p.places n ≡ o → IfOk (record_by p n step (Some own) o) (λ after. RecordsRaising of n own.present p after)
      go None q = tt
      go (Some (Meets k)) q = tt
      go (Some (Keeps history)) q = tt
      go (Some (Records cell)) q = led cell q (step p.graph own.present cell) (h cell)

  read-raising : IfOk (points_after_read p t n) (λ after. RecordsRaising reads_of n own.present p after)
  read-raising = cell-recorded reads_of read_step (λ cell. tested cell (races p.graph cell.writes own.present))
    where
      tested : (cell : Accesses) (a : Bool) → IfOk (if a then Err Race else Ok (record cell { reads = cell.reads ++ own.present ∷ [] })) (λ after. after.reads ≡ cell.reads ++ own.present ∷ [])
      tested cell true = tt
      tested cell false = refl

  write-raising : IfOk (points_after_write p t n) (λ after. RecordsRaising writes_of n own.present p after)
  write-raising = cell-recorded writes_of write_step (λ cell. tested cell (races p.graph cell.writes own.present || races p.graph cell.reads own.present))
    where
      tested : (cell : Accesses) (a : Bool) → IfOk (if a then Err Race else Ok (record cell { writes = cell.writes ++ own.present ∷ [] })) (λ after. after.writes ≡ cell.writes ++ own.present ∷ [])
      tested cell true = tt
      tested cell false = refl

  -- an access of an atomic, by what it does where there is one
  accessed-if : (P : Accessed → Type 0) (step : Scene → Result Answer FailureKind) → ((history : History) → slice_get p.places n ≡ Some (Keeps history) → IfOk (accessed p t n (step (scene_of p own history))) P) → IfOk (access_by p t n step (slice_get p.threads t) (slice_get p.places n)) P
  accessed-if P step h = rw e (go (slice_get p.places n) refl)
    where
      go : (o : Option Place) → slice_get p.places n ≡ o → IfOk (access_by p t n step (Some own) o) P
      go None q = tt
      go (Some (Meets k)) q = tt
      go (Some (Records cell)) q = tt
      go (Some (Keeps history)) q = h history q

  -- what is in the scene that it leads to
  in-scene : (of : Option Place → List ℕ) (history : History) (s : Scene) → slice_get p.places n ≡ Some (Keeps history) → GrownBy t p.graph s.graph → of (Some (Keeps s.history)) ≡ of (Some (Keeps history)) ++ own.present ∷ [] → RecordsRaising of n own.present p (points_of p t n s)
  in-scene of history s q g k =
      let there : slice_get (slice_set p.places n (Keeps s.history)) n ≡ Some (Keeps s.history) = get-set_same p.places n (Keeps s.history) (slice_get_within p.places n (Keeps history) q) in
      record { recorded = rw (there, q) k; raises = raising-extends p.graph s.graph own.present (extends-grown g) r }

  load-raising : (slot : ℕ) (order : Ordering) → IfOk (points_after_load p t n slot order) (λ after. RecordsRaising loads_of n own.present p after.points)
  load-raising slot order = accessed-if _ (λ s. load_step t s slot order) (λ history q.
      let s = scene_of p own history in
      let read = scene_read t (scene_recorded_load s) slot in
      let sync = (in_slot history.stores slot).sync in
      if-passed _ s (history.mutations ∷ []) _ p t n (in-scene loads_of history (scene_loaded read sync order) q (grown-joined (scene_read-grown t (scene_recorded_load s) slot) (scene_loaded-grown t read sync order)) refl))

  store-raising : (value : ℕ) (order : Ordering) → IfOk (points_after_store p t n value order) (λ after. RecordsRaising stored_of n own.present p after.points)
  store-raising value order = accessed-if _ (λ s. store_step t s value order) (λ history q.
      let s = scene_of p own history in
      if-passed _ s (history.mutations ∷ history.unsync_loads ∷ []) _ p t n (if-room _ s _ p t n (in-scene stored_of history (scene_made t (scene_recorded_store s) value None order) q (scene_made-grown t (scene_recorded_store s) value None order) refl)))

  update_read-raising : (slot : ℕ) → IfOk (points_after_update_read p t n slot) (λ after. RecordsRaising loads_of n own.present p after.points)
  update_read-raising slot = accessed-if _ (λ s. update_read_step t s slot) (λ history q.
      let s = scene_of p own history in
      if-passed _ s (history.mutations ∷ []) _ p t n (in-scene loads_of history (scene_read t (scene_recorded_load s) slot) q (scene_read-grown t (scene_recorded_load s) slot) refl))

  write_of_update-raising : (slot value : ℕ) (order : Ordering) → IfOk (points_after_update_write p t n slot value order) (λ after. RecordsRaising stored_of n own.present p after.points)
  write_of_update-raising slot value order = accessed-if _ (λ s. update_write_step t s slot value order) (λ history q.
      let s = scene_of p own history in
      let sync = (in_slot history.stores slot).sync in
      let loaded = scene_loaded (scene_recorded_store s) sync order in
      if-passed _ s (history.mutations ∷ history.unsync_loads ∷ []) _ p t n (if-room _ s _ p t n (in-scene stored_of history (scene_made t loaded value (Some sync) order) q (grown-joined (scene_loaded-grown t (scene_recorded_store s) sync order) (scene_made-grown t loaded value (Some sync) order)) refl)))

-- a read-modify-write that has read is where it was
update_write-raising : (p : Points) (t n : ℕ) (own : ThreadPoints) → slice_get p.threads t ≡ Some own → is_raising p.graph own.present ≡ true → (slot value : ℕ) (order : Ordering) → IfOk (points_after_update_read p t n slot) (λ read. IfOk (points_after_update_write read.points t n slot value order) (λ after. RecordsRaising stored_of n own.present read.points after.points))
update_write-raising p t n own e r slot value order = accessed-if p t n own e r _ (λ s. update_read_step t s slot) (λ history q.
    let s = scene_of p own history in
    let read = scene_read t (scene_recorded_load s) slot in
    let there : slice_get (slice_set p.threads t own) t ≡ Some own = get-set_same p.threads t own (slice_get_within p.threads t own e) in
    if-passed _ s (history.mutations ∷ []) _ p t n (write_of_update-raising (points_of p t n read) t n own there (raising-extends p.graph read.graph own.present (extends-grown (scene_read-grown t (scene_recorded_load s) slot)) r) slot value order))

begins : (p : Points) (t n : ℕ) (own : ThreadPoints) → slice_get p.threads t ≡ Some own → is_raising p.graph own.present ≡ true → BeginsRaising p t n own.present
begins p t n own e r = record {
  read = read-raising p t n own e r;
  write = write-raising p t n own e r;
  load = load-raising p t n own e r;
  store = store-raising p t n own e r;
  update_read = update_read-raising p t n own e r;
  update_write = update_write-raising p t n own e r;
}

pub beginning_law : BeginningLaw
beginning_law p raised t n five h =
    let l = raise-leads p raised t h in
    let there = l.there in
    let new = with_present p.graph l.own in
    let g = graph_after_raise p.graph l.own t in
    rw l.to (begins (with_thread p t g new) t n new (get-set_same p.threads t new l.there) (new-raises p.graph (l.own.present ∷ []) t (omega arith)))
