-- What is kept of an atomic, in vectors.
use Rattle.std.specs.Prelude.{ℕ, ◌≡◌, ◌<◌, ◌+◌, ◌%◌, Bool, false, not, ◌&&◌, ◌||◌, ◌==◌, nat_le, if◌then◌else◌, List, [], ◌∷◌, map, slice_index, slice_index_or, slice_set, Option, Some, None, is_some, Result, Ok, Err}
use Rattle.std.specs.List.{list_all}
use Rattle.loom_views.specs.Atomic.Touches.{untouched}
use Rattle.loom_views.specs.declared.rt.failure.FailureKind.{FailureKind}
use Rattle.loom_views.specs.declared.rt.failure.FailureKind.TheVariants.{Race, OpenAccess}
use Rattle.std.specs.List.{list_any, filter}
use Rattle.std.specs.declared.sync.atomic.Ordering.{Ordering}
use Rattle.loom_views.specs.declared.rt.atomic.reader.Reader.{Reader}
use Rattle.loom_views.specs.declared.rt.atomic.reader.Reader.TheVariants.{Load, Update}
use Rattle.loom_views.specs.declared.rt.atomic.Store.{Store}
use Rattle.loom_views.specs.declared.rt.atomic.State.{State}
use Rattle.loom_views.specs.declared.rt.synchronize.ThreadViews.{ThreadViews}
use Rattle.loom_views.specs.Graph.{threads}
use Rattle.loom_views.specs.Versions.{join_all, join, within, zeros}
use Rattle.loom_views.specs.Atomic.Slots.{slots, is_left_out}
use Rattle.loom_views.specs.Orderings.{is_release, is_seq_cst}

-- a kept version, if there is one, isn't above a view's
abbrev pub is_version_seen : Option ℕ → ℕ → Bool
is_version_seen None n = false
is_version_seen (Some m) n = nat_le m n

-- a touch of some thread is in the view
abbrev pub is_touch_in : List (Option ℕ) → List ℕ → Bool
is_touch_in versions view = list_any (λ t. is_version_seen (slice_index_or versions t None) (slice_index view t)) threads

-- a first touch came no later than the last yield, by their versions
abbrev pub is_version_before : Option ℕ → Option ℕ → Bool
is_version_before None at = false
is_version_before (Some m) None = false
is_version_before (Some m) (Some n) = nat_le m n

-- in place of a store, where there is none
abbrev pub blank_store : Store
blank_store = record { value = 0; order = []; sync = []; first_seen = record { versions = [] }; seq_cst = false }

-- the store in a slot
abbrev pub store_at : List Store → ℕ → Store
store_at stores i = slice_index_or stores i blank_store

-- the one order is strictly inside the other
abbrev pub is_order_below : Store → Store → Bool
is_order_below i j = within i.order j.order && not (within j.order i.order)

-- each order is inside the other
abbrev pub is_order_same : Store → Store → Bool
is_order_same i j = within i.order j.order && within j.order i.order

-- a load of thread t passes store i by for store j, whose order is above
abbrev pub is_passed : ℕ → ThreadViews → Ordering → Store → Store → Bool
is_passed t views order i j = is_touch_in j.first_seen.versions views.present || is_version_before (slice_index_or i.first_seen.versions t None) views.last_yield || (is_seq_cst order && (i.seq_cst && j.seq_cst))

-- store j keeps a reader of thread t from reading store i
abbrev pub drops_store : ℕ → ThreadViews → Reader → Store → Store → Bool
drops_store t views Update i j = is_order_below i j
drops_store t views (Load order) i j = is_order_below i j && is_passed t views order i j

-- the store in slot j keeps a reader of thread t from reading the one in slot i
abbrev pub drops_slot : State → ℕ → ThreadViews → Reader → ℕ → ℕ → Bool
drops_slot state t views reader i j = drops_store t views reader (store_at state.stores i) (store_at state.stores j)

-- the stores in two slots have equal orders
abbrev pub is_same_slot : State → ℕ → ℕ → Bool
is_same_slot state i j = is_order_same (store_at state.stores i) (store_at state.stores j)

-- no two slots have stores of equal orders
abbrev pub HaveOtherOrders : State → Type 0
HaveOtherOrders state = (i j : ℕ) → i < 7 → j < 7 → (not (i == j) && is_same_slot state i j) ≡ false

-- the store in slot j is above the one in slot i
abbrev pub is_slot_below : List Store → ℕ → ℕ → Bool
is_slot_below stores i j = is_order_below (store_at stores i) (store_at stores j)

-- and it is seen in a view
abbrev pub is_below_seen : List Store → List ℕ → ℕ → ℕ → Bool
is_below_seen stores view i j = is_slot_below stores i j && is_touch_in (store_at stores j).first_seen.versions view

-- thread t touches at version n, if it hasn't touched before
abbrev pub touch_version : List (Option ℕ) → ℕ → ℕ → List (Option ℕ)
touch_version versions t n = if is_some (slice_index_or versions t None) then versions else slice_set versions t (Some n)

-- the orders of the kept stores that are seen in a view, but for the slot that is left out
abbrev pub is_order_seen : List Store → List ℕ → Option ℕ → ℕ → Bool
is_order_seen stores view left_out i = not (is_left_out left_out i) && is_touch_in (store_at stores i).first_seen.versions view

-- these orders
abbrev pub orders_seen : List Store → ℕ → List ℕ → Option ℕ → List (List ℕ)
orders_seen stores n view left_out = map (λ i. (store_at stores i).order) (filter (is_order_seen stores view left_out) (slots n))

-- the store in a slot, once thread t has read it
abbrev pub store_read : State → ℕ → ThreadViews → ℕ → Store
store_read state t views slot =
    let read = store_at state.stores slot in
    record read { order = join_all read.order (orders_seen state.stores state.count views.present (Some slot)); first_seen = record { versions = touch_version read.first_seen.versions t (slice_index views.present t) } }

-- the store in a slot takes in an order
abbrev pub order_joined : List ℕ → List Store → ℕ → List Store
order_joined order stores i = let store = store_at stores i in slice_set stores i (record store { order = join store.order order })

-- so in each of these slots
abbrev pub orders_joined : List ℕ → List Store → List ℕ → List Store
orders_joined order stores [] = stores
orders_joined order stores (i ∷ is) = orders_joined order (order_joined order stores i) is

-- slot i isn't this one, and the order of its store contains this order
abbrev pub is_slot_above : List ℕ → List Store → ℕ → ℕ → Bool
is_slot_above order stores slot i = not (i == slot) && within order (store_at stores i).order

-- of n stores, each kept one whose order contained an order, but for the slot that is left out, takes in another order
abbrev pub raised_above : List Store → ℕ → ℕ → List ℕ → List ℕ → List Store
raised_above stores n slot before after = orders_joined after stores (filter (is_slot_above before stores slot) (slots n))

-- the atomic once thread t has read the store in a slot
abbrev pub state_read : State → ℕ → ThreadViews → ℕ → State
state_read state t views slot =
    let read = store_read state t views slot in
    record state { stores = raised_above (slice_set state.stores slot read) state.count slot (store_at state.stores slot).order read.order }

-- a new store
abbrev pub vector_stored : List ℕ → ThreadViews → Ordering → List ℕ
vector_stored sync views order = if is_release order then join (join sync views.released) views.present else join sync views.released

-- a new store, whose synchronization starts with the given view
abbrev pub store_made : State → ℕ → ThreadViews → List ℕ → ℕ → Ordering → Store
store_made state t views sync value order =
    record {
      value = value;
      order = join_all views.present (orders_seen state.stores state.count views.present None);
      sync = vector_stored sync views order;
      first_seen = record { versions = touch_version untouched t (slice_index views.present t) };
      seq_cst = is_seq_cst order;
    }

-- the atomic with this store, in the next slot
abbrev pub state_made : State → ℕ → ThreadViews → List ℕ → ℕ → Ordering → State
state_made state t views sync value order = record state { stores = slice_set state.stores (state.count % 7) (store_made state t views sync value order); count = state.count + 1 }

-- an access whose tests pass, or a failure: an open mutation, or a race
abbrev pub tested : State → List Bool → Result State FailureKind → Result State FailureKind
tested state tests passed = if state.is_mutating then Err OpenAccess else (if list_all (λ b. b) tests then passed else Err Race)

-- a load conflicts with mutations, and is recorded
abbrev pub load_tracked : State → ThreadViews → Result State FailureKind
load_tracked state views = tested state (within state.unsync_mut_at views.present ∷ []) (Ok (record state { loaded_at = join state.loaded_at views.present }))

-- a store conflicts with mutations and with loads that don't synchronize
abbrev pub store_tracked : State → ThreadViews → Result State FailureKind
store_tracked state views = tested state (within state.unsync_mut_at views.present ∷ within state.unsync_loaded_at views.present ∷ []) (Ok (record state { stored_at = join state.stored_at views.present }))

-- a load that doesn't synchronize conflicts with mutations and stores
abbrev pub unsync_load_tracked : State → ThreadViews → Result State FailureKind
unsync_load_tracked state views = tested state (within state.unsync_mut_at views.present ∷ within state.stored_at views.present ∷ []) (Ok (record state { unsync_loaded_at = join state.unsync_loaded_at views.present }))

-- a mutation conflicts with every access
abbrev pub unsync_mut_tracked : State → ThreadViews → Result State FailureKind
unsync_mut_tracked state views = tested state (within state.loaded_at views.present ∷ within state.unsync_loaded_at views.present ∷ within state.stored_at views.present ∷ within state.unsync_mut_at views.present ∷ []) (Ok (record state { unsync_mut_at = join state.unsync_mut_at views.present }))

-- the slot of the newest store
abbrev pub newest_slot : State → ℕ
newest_slot state = (state.count + 6) % 7

-- a new atomic
abbrev pub state_blank : List ℕ → List Store → State
state_blank present stores = record { loaded_at = zeros; stored_at = zeros; unsync_loaded_at = zeros; unsync_mut_at = present; is_mutating = false; stores = stores; count = 0 }
