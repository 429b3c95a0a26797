-- The history of an atomic, by points of the graph.
use Rattle.std.specs.Prelude.{ℕ, ◌-◌, Bool, true, false, not, ◌&&◌, ◌||◌, ◌==◌, nat_le, if◌then◌else◌, List, [], ◌∷◌, ◌++◌, length, map, slice_index_or, slice_set, nat_lt, Option, Some, None, is_some, Result, Ok, Err}
use Rattle.loom_views.specs.declared.rt.failure.FailureKind.{FailureKind}
use Rattle.loom_views.specs.declared.rt.failure.FailureKind.TheVariants.{Race, OpenAccess, TooManyStores}
use Rattle.std.specs.List.{list_any, find, filter}
use Rattle.std.specs.Option.{option_map_or}
use Rattle.std.specs.declared.sync.atomic.Ordering.{Ordering}
use Rattle.std.specs.declared.sync.atomic.Ordering.TheVariants.{Release}
use Rattle.loom_views.specs.declared.rt.atomic.reader.Reader.{Reader}
use Rattle.loom_views.specs.declared.rt.atomic.reader.Reader.TheVariants.{Load, Update}
use Rattle.loom_views.specs.Graph.{Graph, moved, moved_raising, threads, reaches, raised, version, inside}
use Rattle.loom_views.specs.Atomic.Slots.{slots, is_left_out, number_in_slot, readable_slots, has_equal_orders}
use Rattle.loom_views.specs.Atomic.Touches.{untouched}
use Rattle.loom_views.specs.Orderings.{is_seq_cst}
use Rattle.loom_views.specs.ThreadViews.{ThreadPoints, graph_after_load, thread_after_load, graph_after_store}
use Rattle.loom_views.specs.Limits.{most_stores}
pub use Rattle.loom_views.specs.AccessRecords.{races}

-- a store: its order point, its synchronization point, and for each thread its present point when it first touched the store
pub record StorePoints : Type 0 where
  pub value : ℕ
  pub order : ℕ
  pub sync : ℕ
  pub seq_cst : Bool
  pub touched : List (Option ℕ)

-- all stores in the order made, the present points of the accesses of each kind, and whether a `with_mut` is open
pub record History : Type 0 where
  pub stores : List StorePoints
  pub loads : List ℕ
  pub stored : List ℕ
  pub unsync_loads : List ℕ
  pub mutations : List ℕ
  pub mutating : Bool

-- in place of a store, where there is none
abbrev pub blank : StorePoints
blank = record { value = 0; order = 0; sync = 0; seq_cst = false; touched = [] }

-- the store that is kept in a slot
abbrev pub in_slot : List StorePoints → ℕ → StorePoints
in_slot stores slot = slice_index_or stores (number_in_slot (length stores) slot) blank

-- the last raising point that thread t had in the view of point k
abbrev pub last_raised : Graph → ℕ → ℕ → Option ℕ
last_raised g t k = find (λ i. reaches g i k) (raised g t)

-- thread t touched at point k, and what it had raised last reaches point a, or it had raised nothing
abbrev pub is_touch_seen : Graph → ℕ → Option ℕ → ℕ → Bool
is_touch_seen g t None a = false
is_touch_seen g t (Some k) a = option_map_or (λ x. reaches g x a) (last_raised g t k) true

-- thread t's first touch of a store
abbrev pub touch_of : StorePoints → ℕ → Option ℕ
touch_of store t = slice_index_or store.touched t None

-- a store is seen from point a by some thread's first touch
unfoldable pub is_seen : Graph → StorePoints → ℕ → Bool
is_seen g store a = list_any (λ t. is_touch_seen g t (touch_of store t) a) threads

-- thread t touched the store and has yielded, and it had raised no more at that touch than at its last yield
abbrev pub is_touch_before : Graph → ℕ → Option ℕ → Option ℕ → Bool
is_touch_before g t None yielded = false
is_touch_before g t (Some k) None = false
is_touch_before g t (Some k) (Some y) = nat_le (version g k t) (version g y t)

-- the view of one order point lies strictly inside that of the other
unfoldable pub is_below : Graph → StorePoints → StorePoints → Bool
is_below g i j = inside g i.order j.order && not (inside g j.order i.order)

-- each order point's view lies inside the other's
unfoldable pub has_same_order : Graph → StorePoints → StorePoints → Bool
has_same_order g i j = inside g i.order j.order && inside g j.order i.order

-- store j keeps a reader of thread t from reading store i
unfoldable pub drops : Graph → ℕ → ThreadPoints → Reader → StorePoints → StorePoints → Bool
drops g t p Update i j = is_below g i j
drops g t p (Load order) i j = is_below g i j && (is_seen g j p.present || is_touch_before g t (touch_of i t) p.yielded || (is_seq_cst order && (i.seq_cst && j.seq_cst)))

-- the store in slot j keeps a reader of thread t from reading the one in slot i
abbrev pub drops_in_slot : Graph → ℕ → ThreadPoints → Reader → List StorePoints → ℕ → ℕ → Bool
drops_in_slot g t p reader stores i j = drops g t p reader (in_slot stores i) (in_slot stores j)

-- the stores in two slots have equal orders
abbrev pub has_same_order_in_slot : Graph → List StorePoints → ℕ → ℕ → Bool
has_same_order_in_slot g stores i j = has_same_order g (in_slot stores i) (in_slot stores j)

-- the slots that the reader may choose, in rising order
abbrev pub readable : Graph → ℕ → ThreadPoints → Reader → List StorePoints → List ℕ
readable g t p reader stores = readable_slots (drops_in_slot g t p reader stores) (length stores)

-- the choice fails, since two orders are equal on the way
abbrev pub fails_by_orders : Graph → ℕ → ThreadPoints → Reader → List StorePoints → Bool
fails_by_orders g t p reader stores = has_equal_orders (has_same_order_in_slot g stores) (drops_in_slot g t p reader stores) (length stores)

-- the order points of the kept stores that are seen from point a, but for a slot that is left out
abbrev pub is_order_seen_from : Graph → List StorePoints → ℕ → Option ℕ → ℕ → Bool
is_order_seen_from g stores a left_out i = not (is_left_out left_out i) && is_seen g (in_slot stores i) a

-- these order points
abbrev pub seen_orders : Graph → List StorePoints → ℕ → Option ℕ → List ℕ
seen_orders g stores a left_out = map (λ i. (in_slot stores i).order) (filter (is_order_seen_from g stores a left_out) (slots (length stores)))

-- thread t touches at point a, if it hasn't before
abbrev pub touch : List (Option ℕ) → ℕ → ℕ → List (Option ℕ)
touch touched t a = if is_some (slice_index_or touched t None) then touched else slice_set touched t (Some a)

-- reading the store in a slot moves its order point after those of the other kept stores that are seen
abbrev pub graph_after_read : Graph → List StorePoints → ℕ → ℕ → Graph
graph_after_read g stores a slot = moved g ((in_slot stores slot).order ∷ seen_orders g stores a (Some slot))

-- the store that was read has the new order point, and the thread has touched it
abbrev pub stores_after_read : Graph → ℕ → List StorePoints → ℕ → ℕ → List StorePoints
stores_after_read g t stores a slot =
    let read = in_slot stores slot in
    slice_set stores (number_in_slot (length stores) slot) (record read { order = length g; touched = touch read.touched t a })

-- the graph and the stores of an atomic, while order points move
pub record Ordered : Type 0 where
  pub graph : Graph
  pub stores : List StorePoints

-- the order point of the store in a slot moves to a point after itself and after point k
abbrev pub order_raised : ℕ → Ordered → ℕ → Ordered
order_raised k o i =
    let store = in_slot o.stores i in
    record { graph = moved o.graph (store.order ∷ k ∷ []); stores = slice_set o.stores (number_in_slot (length o.stores) i) (record store { order = length o.graph }) }

-- so in each of these slots
abbrev pub orders_raised : ℕ → Ordered → List ℕ → Ordered
orders_raised k o [] = o
orders_raised k o (i ∷ is) = orders_raised k (order_raised k o i) is

-- slot i isn't this one, and the view of its store's order point holds that of this slot's
abbrev pub is_order_above : Graph → List StorePoints → ℕ → ℕ → Bool
is_order_above g stores slot i = not (i == slot) && inside g (in_slot stores slot).order (in_slot stores i).order

-- the other kept stores whose order contains that of the store in a slot
abbrev pub slots_above : Graph → List StorePoints → ℕ → List ℕ
slots_above g stores slot = filter (is_order_above g stores slot) (slots (length stores))

-- once the store in a slot is read, the order of each other kept store that contained its order before contains what it is then
abbrev pub after_read : Graph → ℕ → List StorePoints → ℕ → ℕ → Ordered
after_read g t stores a slot = orders_raised (length g) (record { graph = graph_after_read g stores a slot; stores = stores_after_read g t stores a slot }) (slots_above g stores slot)

-- a new store's order point comes after the author's present point and the orders of the kept stores that are seen.
-- Its synchronization point starts anew or as a copy, and is then stored to
abbrev pub graph_with_order : Graph → List StorePoints → ThreadPoints → Graph
graph_with_order g stores p = moved g (p.present ∷ seen_orders g stores p.present None)

-- a new store's synchronization point is a point without edges, or comes after the one that it copies
abbrev pub graph_with_start : Graph → Option ℕ → Graph
graph_with_start g None = moved g []
graph_with_start g (Some k) = moved g (k ∷ [])

-- the graph once a store is made: its order point, its synchronization point's start, and what is stored to that
abbrev pub graph_after_make : Graph → List StorePoints → ThreadPoints → Option ℕ → Ordering → Graph
graph_after_make g stores p copied order =
    let started = graph_with_start (graph_with_order g stores p) copied in
    graph_after_store started p (length (graph_with_order g stores p)) order

-- the new store is the last one, and its author has touched it
abbrev pub stores_after_make : Graph → ℕ → List StorePoints → ThreadPoints → ℕ → Option ℕ → Ordering → List StorePoints
stores_after_make g t stores p value copied order = stores ++ record { value = value; order = length g; sync = length (graph_with_start (graph_with_order g stores p) copied); seq_cst = is_seq_cst order; touched = touch untouched t p.present } ∷ []

-- an atomic that a thread accesses: the graph, the thread's points and the history
pub record Scene : Type 0 where
  pub graph : Graph
  pub thread : ThreadPoints
  pub history : History

-- a scene and the value that an access answers
pub record Answer : Type 0 where
  pub scene : Scene
  pub value : ℕ

-- an access fails where a `with_mut` is open, or where it races with an earlier one of a kind that it conflicts with
abbrev pub conflicts : Scene → List (List ℕ) → Result Answer FailureKind → Result Answer FailureKind
conflicts s kinds passed =
    if s.history.mutating then Err OpenAccess
    else (if list_any (λ points. races s.graph points s.thread.present) kinds then Err Race else passed)

-- thread t raises its version
abbrev pub scene_raised : ℕ → Scene → Scene
scene_raised t s = record s { graph = moved_raising s.graph (s.thread.present ∷ []) t; thread = record s.thread { present = length s.graph } }

-- gets this graph and these stores
abbrev pub scene_ordered : Scene → Ordered → Scene
scene_ordered s o = record s { graph = o.graph; history = record s.history { stores = o.stores } }

-- reads the store in a slot
abbrev pub scene_read : ℕ → Scene → ℕ → Scene
scene_read t s slot = scene_ordered s (after_read s.graph t s.history.stores s.thread.present slot)

-- a load by an ordering from a point
abbrev pub scene_loaded : Scene → ℕ → Ordering → Scene
scene_loaded s k order = record s { graph = graph_after_load s.graph s.thread k order; thread = thread_after_load s.graph s.thread order }

-- makes a store, whose synchronization point starts anew or as a copy
abbrev pub scene_made : ℕ → Scene → ℕ → Option ℕ → Ordering → Scene
scene_made t s value copied order = record s { graph = graph_after_make s.graph s.history.stores s.thread copied order; history = record s.history { stores = stores_after_make s.graph t s.history.stores s.thread value copied order } }

-- the present point is among those of the loads
abbrev pub scene_recorded_load : Scene → Scene
scene_recorded_load s = record s { history = record s.history { loads = s.history.loads ++ s.thread.present ∷ [] } }

-- or among those of the stores
abbrev pub scene_recorded_store : Scene → Scene
scene_recorded_store s = record s { history = record s.history { stored = s.history.stored ++ s.thread.present ∷ [] } }

-- or among those of the loads that don't synchronize
abbrev pub scene_recorded_unsync_load : Scene → Scene
scene_recorded_unsync_load s = record s { history = record s.history { unsync_loads = s.history.unsync_loads ++ s.thread.present ∷ [] } }

-- or among those of the mutations
abbrev pub scene_recorded_mutation : Scene → Scene
scene_recorded_mutation s = record s { history = record s.history { mutations = s.history.mutations ++ s.thread.present ∷ [] } }

-- a load of the store in a slot, once the thread has raised
abbrev pub load_step : ℕ → Scene → ℕ → Ordering → Result Answer FailureKind
load_step t s slot order =
    let read = in_slot s.history.stores slot in
    conflicts s (s.history.mutations ∷ []) (Ok (record { scene = scene_loaded (scene_read t (scene_recorded_load s) slot) read.sync order; value = read.value }))

-- there is no room for another store
abbrev pub with_room : Scene → Result Answer FailureKind → Result Answer FailureKind
with_room s made = if nat_lt (length s.history.stores) most_stores then made else Err TooManyStores

-- a store, once the thread has raised
abbrev pub store_step : ℕ → Scene → ℕ → Ordering → Result Answer FailureKind
store_step t s value order =
    conflicts s (s.history.mutations ∷ s.history.unsync_loads ∷ [])
    (with_room s (Ok (record { scene = scene_made t (scene_recorded_store s) value None order; value = value })))

-- what a read-modify-write reads, once the thread has raised
abbrev pub update_read_step : ℕ → Scene → ℕ → Result Answer FailureKind
update_read_step t s slot =
    conflicts s (s.history.mutations ∷ []) (Ok (record { scene = scene_read t (scene_recorded_load s) slot; value = (in_slot s.history.stores slot).value }))

-- what it writes where it succeeds, having read the store in a slot
abbrev pub update_write_step : ℕ → Scene → ℕ → ℕ → Ordering → Result Answer FailureKind
update_write_step t s slot value success =
    let sync = (in_slot s.history.stores slot).sync in
    conflicts s (s.history.mutations ∷ s.history.unsync_loads ∷ [])
    (with_room s (Ok (record { scene = scene_made t (scene_loaded (scene_recorded_store s) sync success) value (Some sync) success; value = value })))

-- where it fails, having read the store in a slot
abbrev pub update_fail_step : Scene → ℕ → Ordering → Scene
update_fail_step s slot failure = scene_loaded s (in_slot s.history.stores slot).sync failure

-- the value of the last store
abbrev pub newest_value : List StorePoints → ℕ
newest_value stores = (slice_index_or stores (length stores - 1) blank).value

-- a load that doesn't synchronize
abbrev pub unsync_load_step : Scene → Result Answer FailureKind
unsync_load_step s = conflicts s (s.history.mutations ∷ s.history.stored ∷ []) (Ok (record { scene = scene_recorded_unsync_load s; value = newest_value s.history.stores }))

-- a `with_mut` begins
abbrev pub mutate_step : Scene → Result Answer FailureKind
mutate_step s =
    let recorded = scene_recorded_mutation s in
    conflicts s (s.history.loads ∷ s.history.unsync_loads ∷ s.history.stored ∷ s.history.mutations ∷ [])
    (Ok (record { scene = record recorded { history = record recorded.history { mutating = true } }; value = newest_value s.history.stores }))

-- it ends, and puts a value into the newest store
abbrev pub with_newest : List StorePoints → ℕ → List StorePoints
with_newest stores value = let newest = slice_index_or stores (length stores - 1) blank in slice_set stores (length stores - 1) (record newest { value = value })

-- a `with_mut` ends: it is closed and its value put in, and then it is tested and recorded as it was when it began
abbrev pub mutate_end_step : Scene → ℕ → Result Answer FailureKind
mutate_end_step s value =
    let closed : Scene = record s { history = record s.history { mutating = false; stores = with_newest s.history.stores value } } in
    conflicts closed (s.history.loads ∷ s.history.unsync_loads ∷ s.history.stored ∷ s.history.mutations ∷ []) (Ok (record { scene = scene_recorded_mutation closed; value = value }))

-- an atomic that thread t makes with a value
abbrev pub new_history : ℕ → History
new_history present = record { stores = []; loads = []; stored = []; unsync_loads = []; mutations = present ∷ []; mutating = false }

-- the atomic's first store is the value, by release; that it was made counts as a mutation
abbrev pub new_step : ℕ → Graph → ThreadPoints → ℕ → Scene
new_step t g p value = scene_made t (record { graph = g; thread = p; history = new_history p.present }) value None Release
