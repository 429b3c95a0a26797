-- The atomics and values that replies hold, and the operations of an update.
use Rattle.std.specs.Prelude.{ℕ, Option, Some, None, Result, Ok, Err}
use Rattle.std.specs.declared.sync.atomic.Ordering.{Ordering}
use Rattle.loom_objects.specs.declared.operation.AtomicOp.TheVariants.{CompareExchange}
use Rattle.loom_objects.specs.declared.operation.Request.TheVariants.{Atomic as OnAtomic}
use Rattle.loom_objects.specs.declared.operation.Reply.{Reply}
use Rattle.loom_objects.specs.declared.operation.Reply.TheVariants.{Atomic as AtomicMade, Exchanged, Value}
use Rattle.loom_objects.specs.Operation.Labelled.{Op, bare}
use Rattle.loom_ops.specs.declared.sync.atomic.Atomic.{Atomic}
use Rattle.loom_ops.specs.declared.sync.atomic.FetchUpdate.{FetchUpdate}
use Rattle.loom_ops.specs.declared.sync.atomic.Fetched.{Fetched}
use Rattle.loom_ops.specs.declared.sync.atomic.Fetched.TheVariants.{Read, Replaced}

module _ {D : Type 0} where
  -- the atomic that was made
  abbrev pub atomic_handle : {T : Type 0} → Reply D → Option (Atomic T)
  atomic_handle (AtomicMade number) = Some (record { number = number; holds = record {} })
  atomic_handle _ = None

  -- the number that was read
  abbrev pub value_in : Reply D → Option ℕ
  value_in (Value number) = Some number
  value_in _ = None

  -- what a compare-exchange has read, as the value of its number: Ok where it was exchanged
  abbrev pub exchanged_in : {T : Type 0} → (ℕ → T) → Reply D → Option (Result T T)
  exchanged_in value (Exchanged (Ok number)) = Some (Ok (value number))
  exchanged_in value (Exchanged (Err number)) = Some (Err (value number))
  exchanged_in value _ = None

  -- how far an update is: the next value is made of what was loaded, or of what was there in place of the expected one
  abbrev pub fetched_in : {T : Type 0} → (ℕ → T) → Reply D → Option (Fetched T)
  fetched_in value (Value number) = Some (Read (value number))
  fetched_in value (Exchanged (Err number)) = Some (Read (value number))
  fetched_in value (Exchanged (Ok number)) = Some (Replaced (value number))
  fetched_in value _ = None

-- a compare-exchange of the atomic of this number
abbrev pub exchange : {D S : Type 0} → ℕ → ℕ → ℕ → Ordering → Ordering → Op D S
exchange number expected new success failure =
    bare (OnAtomic (CompareExchange number (record { expected = expected; new = new; success = success; failure = failure })))

-- an update with these orderings, before its first operation
abbrev pub update : {T : Type 0} → Atomic T → Ordering → Ordering → FetchUpdate T
update atomic set_order fetch_order = record { atomic = atomic; set_order = set_order; fetch_order = fetch_order }
