-- Whole accesses of an atomic in vectors, as `State` makes them.
use Rattle.std.specs.Prelude.{ℕ, true, false, if◌then◌else◌, List, slice_set, Result, Ok, Err, nat_lt}
use Rattle.std.specs.declared.sync.atomic.Ordering.{Ordering}
use Rattle.loom_views.specs.declared.rt.failure.FailureKind.{FailureKind}
use Rattle.loom_views.specs.declared.rt.failure.FailureKind.TheVariants.{TooManyStores}
use Rattle.loom_views.specs.declared.rt.atomic.State.{State}
use Rattle.loom_views.specs.declared.rt.synchronize.ThreadViews.{ThreadViews}
use Rattle.loom_views.specs.Versions.{join, zeros}
use Rattle.loom_views.specs.Orderings.{is_acquire}
use Rattle.loom_views.specs.Limits.{most_stores}
use Rattle.loom_views.specs.Atomic.Ring.{load_tracked, newest_slot, state_made, state_read, store_at, store_tracked, unsync_load_tracked, unsync_mut_tracked}

-- what a load brings to the thread
abbrev pub views_loaded : ThreadViews → List ℕ → Ordering → ThreadViews
views_loaded views sync order = record views { present = if is_acquire order then join views.present sync else views.present }

-- what an access leaves
pub record Accessed : Type 0 where
  pub state : State
  pub views : ThreadViews
  pub value : ℕ

-- a load whose tests have passed
abbrev pub load_passed : ℕ → ThreadViews → ℕ → Ordering → Result State FailureKind → Result Accessed FailureKind
load_passed t views slot order (Err kind) = Err kind
load_passed t views slot order (Ok state) = let read = store_at state.stores slot in Ok (record { state = state_read state t views slot; views = views_loaded views read.sync order; value = read.value })

-- a load of the store in a slot
abbrev pub load_now : State → ℕ → ThreadViews → ℕ → Ordering → Result Accessed FailureKind
load_now state t views slot order = load_passed t views slot order (load_tracked state views)

-- where there is room for a store more
abbrev pub with_room_now : State → Result Accessed FailureKind → Result Accessed FailureKind
with_room_now state made = if nat_lt state.count most_stores then made else Err TooManyStores

-- a store whose tests have passed
abbrev pub store_passed : ℕ → ThreadViews → ℕ → Ordering → Result State FailureKind → Result Accessed FailureKind
store_passed t views value order (Err kind) = Err kind
store_passed t views value order (Ok state) = with_room_now state (Ok (record { state = state_made state t views zeros value order; views = views; value = value }))

-- a store of a value
abbrev pub store_now : State → ℕ → ThreadViews → ℕ → Ordering → Result Accessed FailureKind
store_now state t views value order = store_passed t views value order (store_tracked state views)

-- a read-modify-write reads, once the tests have passed
abbrev pub update_read_passed : ℕ → ThreadViews → ℕ → Result State FailureKind → Result Accessed FailureKind
update_read_passed t views slot (Err kind) = Err kind
update_read_passed t views slot (Ok state) = Ok (record { state = state_read state t views slot; views = views; value = (store_at state.stores slot).value })

-- a read-modify-write reads the store in a slot
abbrev pub update_read_now : State → ℕ → ThreadViews → ℕ → Result Accessed FailureKind
update_read_now state t views slot = update_read_passed t views slot (load_tracked state views)

-- its write, once the tests have passed: the thread loads, and the new store starts with what the old one released
abbrev pub update_write_passed : ℕ → ThreadViews → ℕ → ℕ → Ordering → Result State FailureKind → Result Accessed FailureKind
update_write_passed t views slot value success (Err kind) = Err kind
update_write_passed t views slot value success (Ok state) =
    let sync = (store_at state.stores slot).sync in
    let loaded = views_loaded views sync success in
    with_room_now state (Ok (record { state = state_made state t loaded sync value success; views = loaded; value = value }))

-- its write where it succeeds
abbrev pub update_write_now : State → ℕ → ThreadViews → ℕ → ℕ → Ordering → Result Accessed FailureKind
update_write_now state t views slot value success = update_write_passed t views slot value success (store_tracked state views)

-- ---- accesses that don't synchronize

-- the newest value, once the tests have passed
abbrev pub value_passed : ThreadViews → Result State FailureKind → Result Accessed FailureKind
value_passed views (Err kind) = Err kind
value_passed views (Ok state) = Ok (record { state = state; views = views; value = (store_at state.stores (newest_slot state)).value })

-- a load that doesn't synchronize
abbrev pub unsync_load_now : State → ThreadViews → Result Accessed FailureKind
unsync_load_now state views = value_passed views (unsync_load_tracked state views)

-- a mutation opens, once the tests have passed
abbrev pub mutate_passed : ThreadViews → Result State FailureKind → Result Accessed FailureKind
mutate_passed views (Err kind) = Err kind
mutate_passed views (Ok state) = Ok (record { state = record state { is_mutating = true }; views = views; value = (store_at state.stores (newest_slot state)).value })

-- a mutation
abbrev pub mutate_now : State → ThreadViews → Result Accessed FailureKind
mutate_now state views = mutate_passed views (unsync_mut_tracked state views)

-- the mutation is closed, and has left a value in the newest store
abbrev pub state_closed : State → ℕ → State
state_closed state value = let newest = store_at state.stores (newest_slot state) in record state { is_mutating = false; stores = slice_set state.stores (newest_slot state) (record newest { value = value }) }

-- its end, once the tests have passed
abbrev pub ended : ThreadViews → ℕ → Result State FailureKind → Result Accessed FailureKind
ended views value (Err kind) = Err kind
ended views value (Ok state) = Ok (record { state = state; views = views; value = value })

-- a mutation ends
abbrev pub mutate_end_now : State → ThreadViews → ℕ → Result Accessed FailureKind
mutate_end_now state views value = ended views value (unsync_mut_tracked (state_closed state value) views)
