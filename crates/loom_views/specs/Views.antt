-- The points of a whole run: of its threads, and of the objects that threads synchronize at or access.
use Rattle.std.specs.Prelude.{ℕ, ◌≤◌, ◌<◌, ◌≡◌, nat_le, nat_lt, Bool, if◌then◌else◌, List, [], ◌∷◌, ◌++◌, length, slice_get, slice_set, Option, Some, None, Result, Ok, Err}
use Rattle.std.specs.List.{flat_map}
use Rattle.std.specs.declared.sync.atomic.Ordering.{Ordering}
use Rattle.std.specs.declared.sync.atomic.Ordering.TheVariants.{Relaxed, Release, Acquire, AcqRel, SeqCst}
use Rattle.loom_views.specs.declared.rt.atomic.reader.Reader.{Reader}
use Rattle.loom_views.specs.declared.rt.synchronize.ThreadViews.{ThreadViews}
use Rattle.loom_views.specs.declared.rt.failure.FailureKind.{FailureKind}
use Rattle.loom_views.specs.declared.rt.failure.FailureKind.TheVariants.{TooManyThreads, TooManyVersions, OrdersEqual, Misuse}
use Rattle.loom_views.specs.declared.rt.views.Kept.{Kept}
use Rattle.loom_views.specs.declared.rt.views.Kept.TheVariants.{Point, Atomic, Cell}
use Rattle.loom_views.specs.declared.rt.views.Views.{Views}
use Rattle.loom_views.specs.Graph.{Graph, moved, raised, Shows, IsChained, IsPresent}
use Rattle.loom_views.specs.ThreadViews.{ThreadPoints, ShowsThread, with_present, graph_after_raise, graph_after_acquire, graph_after_release, graph_after_release_fence, graph_after_store, graph_after_spawn, child_points, parent_points}
use Rattle.loom_views.specs.Atomic.History.{History, StorePoints, Scene, Answer, readable, fails_by_orders, load_step, store_step, update_read_step, update_write_step, update_fail_step, unsync_load_step, mutate_step, mutate_end_step, new_step}
use Rattle.loom_views.specs.Atomic.Fences.{after_stores, kept_stores}
use Rattle.loom_views.specs.CellAccesses.{Accesses, new_accesses, read_step, write_step, ShowsAccesses}
use Rattle.loom_views.specs.Atomic.Shown.{ShowsState}
use Rattle.loom_views.specs.Limits.{highest_version}
pub use Rattle.loom_views.specs.Atomic.Slots.{has_slot, slot_set}

-- what an object has: the number of the point at which threads synchronize, the history of an atomic, or the accesses of a cell
pub data Place : Type 0 where
  Meets : ℕ → Place
  Keeps : History → Place
  Records : Accesses → Place

-- the points of a run: its graph, those of each thread, those of each object in the order made, the stamps in the order made,
-- which are points that messages and other values keep, and the global point
pub record Points : Type 0 where
  pub graph : Graph
  pub threads : List ThreadPoints
  pub places : List Place
  pub stamps : List ℕ
  pub global : ℕ

-- main alone, with a present point and a released point that come after nothing, as the global point does
abbrev pub opening : Points
opening = record { graph = moved (moved (moved [] []) []) []; threads = child_points [] ∷ []; places = []; stamps = []; global = 2 }

-- the graph and the points of thread t after a step of it
abbrev pub with_thread : Points → ℕ → Graph → ThreadPoints → Points
with_thread p t g own = record p { graph = g; threads = slice_set p.threads t own }

-- the graph and object n after a step on it
abbrev pub with_place : Points → ℕ → Graph → Place → Points
with_place p n g place = record p { graph = g; places = slice_set p.places n place }

-- one more object, at the end
abbrev pub with_new_place : Points → Graph → Place → Points
with_new_place p g place = record p { graph = g; places = p.places ++ place ∷ [] }

-- thread t raises its version, at most 65,534 times
abbrev pub raise_by : Points → ℕ → Option ThreadPoints → Result Points FailureKind
raise_by p t None = Err Misuse
raise_by p t (Some own) = if nat_lt (length (raised p.graph t)) highest_version then Ok (with_thread p t (graph_after_raise p.graph own t) (with_present p.graph own)) else Err TooManyVersions

abbrev pub points_after_raise : Points → ℕ → Result Points FailureKind
points_after_raise p t = raise_by p t (slice_get p.threads t)

-- thread t acquires from the point of object n. Nothing happens where there is no such thread or point
abbrev pub acquire_by : Points → ℕ → Option ThreadPoints → Option Place → Points
acquire_by p t None place = p
acquire_by p t (Some own) None = p
acquire_by p t (Some own) (Some (Keeps history)) = p
acquire_by p t (Some own) (Some (Records cell)) = p
acquire_by p t (Some own) (Some (Meets k)) = with_thread p t (graph_after_acquire p.graph own k) (with_present p.graph own)

abbrev pub points_after_acquire : Points → ℕ → ℕ → Points
points_after_acquire p t n = acquire_by p t (slice_get p.threads t) (slice_get p.places n)

-- thread t releases to the point of object n by an ordering. Nothing happens where there is no such thread or point
abbrev pub release_by : Points → ℕ → Ordering → Option ThreadPoints → Option Place → Points
release_by p n order None place = p
release_by p n order (Some own) None = p
release_by p n order (Some own) (Some (Keeps history)) = p
release_by p n order (Some own) (Some (Records cell)) = p
release_by p n order (Some own) (Some (Meets k)) = with_place p n (graph_after_store p.graph own k order) (Meets (length p.graph))

abbrev pub points_after_release : Points → ℕ → ℕ → Ordering → Points
points_after_release p t n order = release_by p n order (slice_get p.threads t) (slice_get p.places n)

-- thread t's release fence
abbrev pub fence_by : Points → ℕ → Option ThreadPoints → Points
fence_by p t None = p
fence_by p t (Some own) = with_thread p t (graph_after_release_fence p.graph own) (record own { released = length p.graph })

abbrev pub points_after_release_fence : Points → ℕ → Points
points_after_release_fence p t = fence_by p t (slice_get p.threads t)

-- thread t yields, at its present point
abbrev pub yield_by : Points → ℕ → Option ThreadPoints → Points
yield_by p t None = p
yield_by p t (Some own) = with_thread p t p.graph (record own { yielded = Some own.present })

abbrev pub points_after_yield : Points → ℕ → Points
points_after_yield p t = yield_by p t (slice_get p.threads t)

-- an object with a point of its own, at which no thread has synchronized
abbrev pub points_with_point : Points → Points
points_with_point p = with_new_place p (moved p.graph []) (Meets (length p.graph))

-- one more stamp, which nobody has released to
abbrev pub points_with_stamp : Points → Points
points_with_stamp p = record p { graph = moved p.graph []; stamps = p.stamps ++ length p.graph ∷ [] }

-- stamp m is the point of object n, as that is now. Nothing happens where there is no such point
abbrev pub stamp_by : Points → ℕ → Option Place → Points
stamp_by p m None = p
stamp_by p m (Some (Keeps history)) = p
stamp_by p m (Some (Records cell)) = p
stamp_by p m (Some (Meets k)) = record p { stamps = slice_set p.stamps m k }

abbrev pub points_after_stamp : Points → ℕ → ℕ → Points
points_after_stamp p n m = stamp_by p m (slice_get p.places n)

-- thread t releases to stamp m by an ordering. Nothing happens where there is no such thread or stamp
abbrev pub stamp_release_by : Points → ℕ → Ordering → Option ThreadPoints → Option ℕ → Points
stamp_release_by p m order None stamp = p
stamp_release_by p m order (Some own) None = p
stamp_release_by p m order (Some own) (Some k) = record p { graph = graph_after_store p.graph own k order; stamps = slice_set p.stamps m (length p.graph) }

abbrev pub points_after_stamp_release : Points → ℕ → ℕ → Ordering → Points
points_after_stamp_release p t m order = stamp_release_by p m order (slice_get p.threads t) (slice_get p.stamps m)

-- thread t acquires from stamp m. Nothing happens where there is no such thread or stamp
abbrev pub stamp_acquire_by : Points → ℕ → Option ThreadPoints → Option ℕ → Points
stamp_acquire_by p t None stamp = p
stamp_acquire_by p t (Some own) None = p
stamp_acquire_by p t (Some own) (Some k) = with_thread p t (graph_after_acquire p.graph own k) (with_present p.graph own)

abbrev pub points_after_stamp_acquire : Points → ℕ → ℕ → Points
points_after_stamp_acquire p t m = stamp_acquire_by p t (slice_get p.threads t) (slice_get p.stamps m)

-- thread t spawns the next thread, of five at most, where t may raise once more
abbrev pub spawn_by : Points → ℕ → Option ThreadPoints → Result Points FailureKind
spawn_by p t None = Err Misuse
spawn_by p t (Some own) =
    if nat_le 5 (length p.threads) then Err TooManyThreads
    else (if nat_lt (length (raised p.graph t)) highest_version
    then Ok (record p { graph = graph_after_spawn p.graph own t (length p.threads); threads = slice_set p.threads t (parent_points p.graph own) ++ child_points p.graph ∷ [] })
    else Err TooManyVersions)

abbrev pub points_after_spawn : Points → ℕ → Result Points FailureKind
points_after_spawn p t = spawn_by p t (slice_get p.threads t)

-- thread t takes in the present view of thread u. Nothing happens where one of them isn't there
abbrev pub join_by : Points → ℕ → Option ThreadPoints → Option ThreadPoints → Points
join_by p t None other = p
join_by p t (Some own) None = p
join_by p t (Some own) (Some other) = with_thread p t (graph_after_acquire p.graph own other.present) (with_present p.graph own)

abbrev pub points_after_join : Points → ℕ → ℕ → Points
points_after_join p t u = join_by p t (slice_get p.threads t) (slice_get p.threads u)

-- thread t and an atomic that it accesses
abbrev pub scene_of : Points → ThreadPoints → History → Scene
scene_of p own history = record { graph = p.graph; thread = own; history = history }

-- the points of the run where thread t and the atomic n have come to a scene
abbrev pub points_of : Points → ℕ → ℕ → Scene → Points
points_of p t n s = record p { graph = s.graph; threads = slice_set p.threads t s.thread; places = slice_set p.places n (Keeps s.history) }

-- points, and the value that an access answers
pub record Accessed : Type 0 where
  pub points : Points
  pub value : ℕ

-- the points and the value to which an access of atomic n leads, or its failure
abbrev pub accessed : Points → ℕ → ℕ → Result Answer FailureKind → Result Accessed FailureKind
accessed p t n (Ok answer) = Ok (record { points = points_of p t n answer.scene; value = answer.value })
accessed p t n (Err kind) = Err kind

-- thread t makes an atomic with a value. Nothing happens where there is no such thread
abbrev pub add_atomic_by : Points → ℕ → ℕ → Option ThreadPoints → Points
add_atomic_by p t value None = p
add_atomic_by p t value (Some own) = let made = new_step t p.graph own value in with_new_place p made.graph (Keeps made.history)

abbrev pub points_with_atomic : Points → ℕ → ℕ → Points
points_with_atomic p t value = add_atomic_by p t value (slice_get p.threads t)

-- an access of atomic n by thread t, which is a misuse where one of them isn't there
abbrev pub access_by : Points → ℕ → ℕ → (Scene → Result Answer FailureKind) → Option ThreadPoints → Option Place → Result Accessed FailureKind
access_by p t n step None place = Err Misuse
access_by p t n step (Some own) None = Err Misuse
access_by p t n step (Some own) (Some (Meets k)) = Err Misuse
access_by p t n step (Some own) (Some (Records cell)) = Err Misuse
access_by p t n step (Some own) (Some (Keeps history)) = accessed p t n (step (scene_of p own history))

abbrev pub access : Points → ℕ → ℕ → (Scene → Result Answer FailureKind) → Result Accessed FailureKind
access p t n step = access_by p t n step (slice_get p.threads t) (slice_get p.places n)

-- thread t, which has raised its version, loads from a slot of atomic n, or stores to it
abbrev pub points_after_load : Points → ℕ → ℕ → ℕ → Ordering → Result Accessed FailureKind
points_after_load p t n slot order = access p t n (λ s. load_step t s slot order)

abbrev pub points_after_store : Points → ℕ → ℕ → ℕ → Ordering → Result Accessed FailureKind
points_after_store p t n value order = access p t n (λ s. store_step t s value order)

-- thread t, which has raised its version, reads for a read-modify-write from a slot of atomic n
abbrev pub points_after_update_read : Points → ℕ → ℕ → ℕ → Result Accessed FailureKind
points_after_update_read p t n slot = access p t n (λ s. update_read_step t s slot)

-- thread t, which has read a slot of atomic n, writes for a read-modify-write that succeeds
abbrev pub points_after_update_write : Points → ℕ → ℕ → ℕ → ℕ → Ordering → Result Accessed FailureKind
points_after_update_write p t n slot value success = access p t n (λ s. update_write_step t s slot value success)

-- thread t, which has read a slot of atomic n, ends a read-modify-write that fails. Nothing happens where there is no such thread or atomic
abbrev pub update_fail_by : Points → ℕ → ℕ → Ordering → Option ThreadPoints → Option Place → Points
update_fail_by p t slot failure None place = p
update_fail_by p t slot failure (Some own) None = p
update_fail_by p t slot failure (Some own) (Some (Meets k)) = p
update_fail_by p t slot failure (Some own) (Some (Records cell)) = p
update_fail_by p t slot failure (Some own) (Some (Keeps history)) = let failed = update_fail_step (scene_of p own history) slot failure in with_thread p t failed.graph failed.thread

abbrev pub points_after_update_fail : Points → ℕ → ℕ → ℕ → Ordering → Points
points_after_update_fail p t n slot failure = update_fail_by p t slot failure (slice_get p.threads t) (slice_get p.places n)

-- thread t loads from atomic n without synchronizing, begins a mutation of it, or ends one with a value
abbrev pub points_after_unsync_load : Points → ℕ → ℕ → Result Accessed FailureKind
points_after_unsync_load p t n = access p t n unsync_load_step

abbrev pub points_after_with_mut : Points → ℕ → ℕ → Result Accessed FailureKind
points_after_with_mut p t n = access p t n mutate_step

abbrev pub points_after_with_mut_end : Points → ℕ → ℕ → ℕ → Result Accessed FailureKind
points_after_with_mut_end p t n value = access p t n (λ s. mutate_end_step s value)

-- thread t makes a cell. Nothing happens where there is no such thread
abbrev pub add_cell_by : Points → Option ThreadPoints → Points
add_cell_by p None = p
add_cell_by p (Some own) = with_new_place p p.graph (Records (new_accesses own.present))

abbrev pub points_with_cell : Points → ℕ → Points
points_with_cell p t = add_cell_by p (slice_get p.threads t)

-- the points once the accesses of cell n are these, where a step led to them
abbrev pub recorded : Points → ℕ → Result Accesses FailureKind → Result Points FailureKind
recorded p n (Ok cell) = Ok (with_place p n p.graph (Records cell))
recorded p n (Err kind) = Err kind

-- a recorded access of cell n by thread t, which is a misuse where one of them isn't there. No thread's point moves
abbrev pub record_by : Points → ℕ → (Graph → ℕ → Accesses → Result Accesses FailureKind) → Option ThreadPoints → Option Place → Result Points FailureKind
record_by p n step None place = Err Misuse
record_by p n step (Some own) None = Err Misuse
record_by p n step (Some own) (Some (Meets k)) = Err Misuse
record_by p n step (Some own) (Some (Keeps history)) = Err Misuse
record_by p n step (Some own) (Some (Records cell)) = recorded p n (step p.graph own.present cell)

-- thread t reads cell n, or writes it
abbrev pub points_after_read : Points → ℕ → ℕ → Result Points FailureKind
points_after_read p t n = record_by p n read_step (slice_get p.threads t) (slice_get p.places n)

abbrev pub points_after_write : Points → ℕ → ℕ → Result Points FailureKind
points_after_write p t n = record_by p n write_step (slice_get p.threads t) (slice_get p.places n)

-- the kept stores of an object, the oldest first: only an atomic has any
abbrev pub stores_at : Place → List StorePoints
stores_at (Meets k) = []
stores_at (Records cell) = []
stores_at (Keeps history) = kept_stores history.stores

-- thread t's acquire fence: from each store that it sees by then, through all atomics in the order made and the kept stores of each from the oldest
abbrev pub acquire_fence_by : Points → ℕ → Option ThreadPoints → Points
acquire_fence_by p t None = p
acquire_fence_by p t (Some own) = let fenced = after_stores (record { graph = p.graph; thread = own }) (flat_map stores_at p.places) in with_thread p t fenced.graph fenced.thread

abbrev pub points_after_acquire_fence : Points → ℕ → Points
points_after_acquire_fence p t = acquire_fence_by p t (slice_get p.threads t)

-- the global point comes after a present point too
abbrev pub with_global : Points → ThreadPoints → Points
with_global p own = record p { graph = graph_after_release p.graph own p.global; global = length p.graph }

-- thread t's present point comes after the global point, and then the global point after the present one
abbrev pub meet_by : Points → ℕ → Option ThreadPoints → Points
meet_by p t None = p
meet_by p t (Some own) = with_global (with_thread p t (graph_after_acquire p.graph own p.global) (with_present p.graph own)) (with_present p.graph own)

abbrev pub points_after_meet_global : Points → ℕ → Points
points_after_meet_global p t = meet_by p t (slice_get p.threads t)

-- thread t's fence by an ordering, once it has raised its version. A relaxed one does nothing
abbrev pub points_after_fence : Points → ℕ → Ordering → Points
points_after_fence p t Relaxed = p
points_after_fence p t Acquire = points_after_acquire_fence p t
points_after_fence p t Release = points_after_release_fence p t
points_after_fence p t AcqRel = points_after_release_fence (points_after_acquire_fence p t) t
points_after_fence p t SeqCst = points_after_meet_global (points_after_release_fence (points_after_acquire_fence p t) t) t

-- the slots of atomic n that a reader of thread t may choose
abbrev pub readable_by : Points → ℕ → Reader → Option ThreadPoints → Option Place → Result (List ℕ) FailureKind
readable_by p t reader None place = Err Misuse
readable_by p t reader (Some own) None = Err Misuse
readable_by p t reader (Some own) (Some (Meets k)) = Err Misuse
readable_by p t reader (Some own) (Some (Records cell)) = Err Misuse
readable_by p t reader (Some own) (Some (Keeps history)) = if fails_by_orders p.graph t own reader history.stores then Err OrdersEqual else Ok (readable p.graph t own reader history.stores)

abbrev pub readable_slots_of : Points → ℕ → ℕ → Reader → Result (List ℕ) FailureKind
readable_slots_of p t n reader = readable_by p t reader (slice_get p.threads t) (slice_get p.places n)

-- a store is kept in the slot, if the object is an atomic
abbrev pub IsSlotKept : Option Place → ℕ → Type 0
IsSlotKept None slot = Unit {0}
IsSlotKept (Some (Meets k)) slot = Unit {0}
IsSlotKept (Some (Records cell)) slot = Unit {0}
IsSlotKept (Some (Keeps history)) slot = (slot < 7) × (slot < length history.stores)

-- a thread's views show its points, and its present point is one; a thread that isn't there has raised nothing
abbrev pub ShowsThreadAt : Graph → ℕ → Option ThreadPoints → Option ThreadViews → Type 0
ShowsThreadAt g t None views = raised g t ≡ []
ShowsThreadAt g t (Some own) None = ⊥
ShowsThreadAt g t (Some own) (Some views) = IsPresent g t own.present × ShowsThread g t own views

abbrev pub ShowsThreads : Graph → List ThreadPoints → List ThreadViews → Type 0
ShowsThreads g threads kept = (t : ℕ) → t < 5 → ShowsThreadAt g t (slice_get threads t) (slice_get kept t)

-- what is kept of an object shows its points, and an atomic has a store
abbrev pub ShowsPlace : Graph → Place → Kept → Type 0
ShowsPlace g (Meets k) (Point view) = Shows g k view
ShowsPlace g (Meets k) (Atomic state) = ⊥
ShowsPlace g (Meets k) (Cell records) = ⊥
ShowsPlace g (Keeps history) (Point view) = ⊥
ShowsPlace g (Keeps history) (Atomic state) = ShowsState g history state × (0 < length history.stores)
ShowsPlace g (Keeps history) (Cell records) = ⊥
ShowsPlace g (Records cell) (Point view) = ⊥
ShowsPlace g (Records cell) (Atomic state) = ⊥
ShowsPlace g (Records cell) (Cell records) = ShowsAccesses g cell records

abbrev pub ShowsPlaceAt : Graph → Option Place → Option Kept → Type 0
ShowsPlaceAt g None None = Unit {0}
ShowsPlaceAt g None (Some kept) = ⊥
ShowsPlaceAt g (Some place) None = ⊥
ShowsPlaceAt g (Some place) (Some kept) = ShowsPlace g place kept

abbrev pub ShowsPlaces : Graph → List Place → List Kept → Type 0
ShowsPlaces g places kept = (n : ℕ) → ShowsPlaceAt g (slice_get places n) (slice_get kept n)

abbrev pub ShowsStampAt : Graph → Option ℕ → Option (List ℕ) → Type 0
ShowsStampAt g None None = Unit {0}
ShowsStampAt g None (Some view) = ⊥
ShowsStampAt g (Some k) None = ⊥
ShowsStampAt g (Some k) (Some view) = Shows g k view

-- what is kept of each stamp shows its point, and there are as many
pub record ShowsStamps (g : Graph) (stamps : List ℕ) (kept : List (List ℕ)) : Type 0 where
  pub count : length stamps ≡ length kept
  pub each : (m : ℕ) → ShowsStampAt g (slice_get stamps m) (slice_get kept m)

-- what is kept of a run shows its points, in a graph that moves made
pub record ShowsViews (p : Points) (v : Views) : Type 0 where
  pub chained : IsChained p.graph
  pub count : length p.threads ≡ v.count
  pub most : length p.threads ≤ 5
  pub five : length v.threads ≡ 5
  pub threads : ShowsThreads p.graph p.threads v.threads
  pub places : ShowsPlaces p.graph p.places v.places
  pub stamps : ShowsStamps p.graph p.stamps v.stamps
  pub global : Shows p.graph p.global v.global

-- a move answers as its rule does, and shows the points that it leads to
abbrev pub MovesAs : Result Points FailureKind → Result (Unit {0}) FailureKind → Views → Type 0
MovesAs (Ok after) result v = (result ≡ Ok tt) × ShowsViews after v
MovesAs (Err kind) result v = result ≡ Err kind

-- an access answers a value, or none, as its rule does, and shows the points that it leads to
abbrev pub LoadsAs : Result Accessed FailureKind → Result ℕ FailureKind → Views → Type 0
LoadsAs (Ok after) result v = (result ≡ Ok after.value) × ShowsViews after.points v
LoadsAs (Err kind) result v = result ≡ Err kind

abbrev pub StoresAs : Result Accessed FailureKind → Result (Unit {0}) FailureKind → Views → Type 0
StoresAs (Ok after) result v = (result ≡ Ok tt) × ShowsViews after.points v
StoresAs (Err kind) result v = result ≡ Err kind

-- a choice of slots answers as its rule does
abbrev pub OffersAs : Result (List ℕ) FailureKind → Result (List Bool) FailureKind → Type 0
OffersAs (Ok slots) result = result ≡ Ok (slot_set slots)
OffersAs (Err kind) result = result ≡ Err kind
