-- What atomics and fences do.
use Rattle.std.specs.Prelude.{ℕ, ◌==◌, Bool, true, false, not, List, [], ◌∷◌, ◌++◌, length, Some, None, Result, Ok, Err}
use Rattle.std.specs.declared.sync.atomic.Ordering.{Ordering}
use Rattle.std.specs.declared.sync.atomic.Ordering.TheVariants as by
use Rattle.loom_views.specs.declared.rt.atomic.reader.Reader.{Reader}
use Rattle.loom_views.specs.declared.rt.atomic.reader.Reader.TheVariants as reader
use Rattle.loom_views.specs.declared.rt.num.change.Change.{Change}
use Rattle.loom_views.specs.declared.rt.failure.FailureKind.{FailureKind}
use Rattle.loom_views.specs.declared.rt.failure.FailureKind.TheVariants.{Misuse, RelaxedFence}
use Rattle.loom_views.specs.declared.rt.num.Numbers.{Numbers}
use Rattle.loom_views.specs.Changes.{fit, changed}
use Rattle.loom_views.specs.Views.{points_with_atomic, readable_slots_of, slot_set, points_after_load, points_after_store, points_after_update_read, points_after_update_write, points_after_update_fail, points_after_unsync_load, points_after_with_mut, points_after_with_mut_end, points_after_fence}
use Rattle.loom_objects.specs.declared.operation.AtomicOp.{AtomicOp}
use Rattle.loom_objects.specs.declared.operation.AtomicOp.TheVariants.{New, Load, Store, Update, CompareExchange, CompareAndSwap, UnsyncLoad, IntoInner, WithMut, WithMutEnd}
use Rattle.loom_objects.specs.declared.operation.Exchange.{Exchange}
use Rattle.loom_objects.specs.declared.operation.Reply.{Reply}
use Rattle.loom_objects.specs.declared.operation.Reply.TheVariants as reply
use Rattle.loom_objects.specs.declared.rt.object.Object.TheVariants as object
use Rattle.loom_objects.specs.declared.rt.run.Entry.{Entry}
use Rattle.loom_objects.specs.declared.rt.run.Entry.TheVariants.{Answered, AtBranch}
use Rattle.loom_objects.specs.declared.rt.run.Resumed.{Resumed}
use Rattle.loom_objects.specs.declared.rt.run.Resumed.TheVariants as resumed
use Rattle.loom_objects.specs.declared.rt.atomic.Atomic.{Atomic}
use Rattle.loom_objects.specs.declared.rt.thread.Task.TheVariants as task
use Rattle.loom_objects.specs.Operation.Accessed.{accessed}
use Rattle.loom_objects.specs.Rules.Rule.{◌>>=◌, check, found}
use Rattle.loom_objects.specs.Rules.Replied.{replied}
use Rattle.loom_objects.specs.World.{World}
use Rattle.loom_objects.specs.Rules.Moves.{an_atomic, is_number, with_object, with_points, raises, pends}

-- the ordering of a `compare_and_swap` that reads another value than the one that is expected
abbrev pub where_not_swapped : Ordering → Ordering
where_not_swapped by.Relaxed = by.Relaxed
where_not_swapped by.Release = by.Relaxed
where_not_swapped by.Acquire = by.Acquire
where_not_swapped by.AcqRel = by.Acquire
where_not_swapped by.SeqCst = by.SeqCst

-- a `compare_and_swap` is a compare-exchange with that ordering
abbrev pub swap_of : ℕ → ℕ → Ordering → Exchange
swap_of expected new order = record { expected = expected; new = new; success = order; failure = where_not_swapped order }

abbrev pub is_relaxed : Ordering → Bool
is_relaxed by.Relaxed = true
is_relaxed by.Release = false
is_relaxed by.Acquire = false
is_relaxed by.AcqRel = false
is_relaxed by.SeqCst = false

-- the value that was read, exchanged or not
abbrev pub either_way : Result ℕ ℕ → ℕ
either_way (Ok read) = read
either_way (Err read) = read

-- one of the slots at least may be read
abbrev pub some_slot : List Bool → Bool
some_slot [] = false
some_slot (true ∷ readable) = true
some_slot (false ∷ readable) = some_slot readable

module _ {D : Type 0} where
  -- a new atomic with this value, whose number is how many objects there were
  abbrev pub atomic_new : Numbers → ℕ → World D → Result (Entry D × World D) FailureKind
  atomic_new numbers value w =
      let atomic = object.Atomic (record { numbers = numbers; is_taken = false; opened = None }) in
      Ok (Answered (reply.Atomic (length w.objects)), with_points (points_with_atomic w.points w.active (fit numbers value)) (record w { objects = w.objects ++ atomic ∷ [] }))

  abbrev pub with_atomic : ℕ → Atomic → World D → World D
  with_atomic n atomic w = with_object n (object.Atomic atomic) w

  -- a load that doesn't synchronize
  abbrev pub unsync_load : ℕ → World D → Result (Entry D × World D) FailureKind
  unsync_load n w = do
    _ ← an_atomic n w
    read ← points_after_unsync_load w.points w.active n
    Ok (Answered (reply.Value read.value), with_points read.points w)

  -- after such a load the atomic is taken apart
  abbrev pub into_inner : ℕ → World D → Result (Entry D × World D) FailureKind
  into_inner n w = do
    atomic ← an_atomic n w
    read ← points_after_unsync_load w.points w.active n
    Ok (Answered (reply.Value read.value), with_points read.points (with_atomic n (record atomic { is_taken = true }) w))

  -- the active thread opens a mutation
  abbrev pub with_mut : ℕ → World D → Result (Entry D × World D) FailureKind
  with_mut n w = do
    atomic ← an_atomic n w
    read ← points_after_with_mut w.points w.active n
    Ok (Answered (reply.Value read.value), with_points read.points (with_atomic n (record atomic { opened = Some w.active }) w))

  -- who has opened the mutation ends it, with the value that it leaves
  abbrev pub with_mut_end : ℕ → ℕ → World D → Result (Entry D × World D) FailureKind
  with_mut_end n value w = do
    atomic ← an_atomic n w
    _ ← check (is_number atomic.opened w.active) Misuse
    stored ← points_after_with_mut_end w.points w.active n (fit atomic.numbers value)
    Ok (Answered reply.Done, with_points stored.points (with_atomic n (record atomic { opened = None }) w))

  -- a fence has no branch point: its thread raises its version, whatever the ordering, and then none is relaxed
  abbrev pub fence : Ordering → World D → Result (Entry D × World D) FailureKind
  fence order w = do
    raised ← raises w
    _ ← check (not (is_relaxed order)) RelaxedFence
    Ok (Answered reply.Done, with_points (points_after_fence raised.points raised.active order) raised)

  -- at any other access the thread reaches a branch point
  abbrev pub access_begins : AtomicOp → World D → Result (Entry D × World D) FailureKind
  access_begins access w = do
    n ← found (accessed access) Misuse
    _ ← an_atomic n w
    Ok (AtBranch, pends (task.Access access) false w)

  abbrev pub atomic_begins : AtomicOp → World D → Result (Entry D × World D) FailureKind
  atomic_begins (New numbers value) w = atomic_new numbers value w
  atomic_begins (UnsyncLoad n) w = unsync_load n w
  atomic_begins (IntoInner n) w = into_inner n w
  atomic_begins (WithMut n) w = with_mut n w
  atomic_begins (WithMutEnd n value) w = with_mut_end n value w
  atomic_begins (Load n order) w = access_begins (Load n order) w
  atomic_begins (Store n value order) w = access_begins (Store n value order) w
  atomic_begins (Update n change order) w = access_begins (Update n change order) w
  atomic_begins (CompareExchange n exchange) w = access_begins (CompareExchange n exchange) w
  atomic_begins (CompareAndSwap n expected new order) w = access_begins (CompareAndSwap n expected new order) w

  -- ---- once the thread is chosen

  -- it raises its version, and stores
  abbrev pub store : ℕ → ℕ → Ordering → World D → Result (Reply D × World D) FailureKind
  store n value order w = do
    raised ← raises w
    atomic ← an_atomic n raised
    stored ← points_after_store raised.points raised.active n (fit atomic.numbers value) order
    Ok (reply.Done, with_points stored.points raised)

  -- It raises its version, and which of the stores is read is to be chosen, of those that may be; a run's atomics always have
  -- one
  abbrev pub opens : ℕ → Reader → AtomicOp → World D → Result (Resumed D × World D) FailureKind
  opens n reader access w = do
    raised ← raises w
    _ ← an_atomic n raised
    readable ← readable_slots_of raised.points raised.active n reader
    _ ← check (some_slot (slot_set readable)) Misuse
    Ok (resumed.Load (record { access = access; readable = slot_set readable }), raised)

  -- a load of the store in the slot
  abbrev pub loads : ℕ → Ordering → ℕ → World D → Result (Reply D × World D) FailureKind
  loads n order slot w = do
    loaded ← points_after_load w.points w.active n slot order
    Ok (reply.Value loaded.value, with_points loaded.points w)

  -- the store in the slot, which was read, is followed by one of this value
  abbrev pub writes : ℕ → ℕ → Ordering → ℕ → World D → Result (World D) FailureKind
  writes n value order slot w = do
    written ← points_after_update_write w.points w.active n slot value order
    Ok (with_points written.points w)

  -- a read-modify-write of the store in the slot, which answers the value that it reads
  abbrev pub updates : ℕ → Change → Ordering → ℕ → World D → Result (Reply D × World D) FailureKind
  updates n change order slot w = do
    atomic ← an_atomic n w
    read ← points_after_update_read w.points w.active n slot
    written ← writes n (fit atomic.numbers (changed atomic.numbers change read.value)) order slot (with_points read.points w)
    Ok (reply.Value read.value, written)

  -- what was read is exchanged if it is the expected value; else it was loaded by the failure ordering
  abbrev pub exchanges_if : Bool → ℕ → ℕ → Exchange → ℕ → ℕ → World D → Result (Result ℕ ℕ × World D) FailureKind
  exchanges_if true n new exchange slot read w = do
    written ← writes n new exchange.success slot w
    Ok (Ok read, written)
  exchanges_if false n new exchange slot read w =
      Ok (Err read, with_points (points_after_update_fail w.points w.active n slot exchange.failure) w)

  -- a compare-exchange of the store in the slot
  abbrev pub exchanges : ℕ → Exchange → ℕ → World D → Result (Result ℕ ℕ × World D) FailureKind
  exchanges n exchange slot w = do
    atomic ← an_atomic n w
    read ← points_after_update_read w.points w.active n slot
    exchanges_if (read.value == fit atomic.numbers exchange.expected) n (fit atomic.numbers exchange.new) exchange slot read.value (with_points read.points w)

  abbrev pub tells_exchanged : Result ℕ ℕ × World D → Result (Reply D × World D) FailureKind
  tells_exchanged (answer, w) = Ok (reply.Exchanged answer, w)

  abbrev pub tells_read : Result ℕ ℕ × World D → Result (Reply D × World D) FailureKind
  tells_read (answer, w) = Ok (reply.Value (either_way answer), w)

  -- an access goes on by the slot that it reads
  abbrev pub reads : AtomicOp → World D → ℕ → Result (Reply D × World D) FailureKind
  reads (Load n order) w slot = loads n order slot w
  reads (Update n change order) w slot = updates n change order slot w
  reads (CompareExchange n exchange) w slot = exchanges n exchange slot w >>= tells_exchanged
  reads (CompareAndSwap n expected new order) w slot = exchanges n (swap_of expected new order) slot w >>= tells_read
  reads _ w slot = Err Misuse

  -- an access takes effect, one that reads up to the choice of the store that it reads
  abbrev pub accesses : AtomicOp → World D → Result (Resumed D × World D) FailureKind
  accesses (Store n value order) w = store n value order w >>= replied
  accesses (Load n order) w = opens n (reader.Load order) (Load n order) w
  accesses (Update n change order) w = opens n reader.Update (Update n change order) w
  accesses (CompareExchange n exchange) w = opens n reader.Update (CompareExchange n exchange) w
  accesses (CompareAndSwap n expected new order) w = opens n reader.Update (CompareAndSwap n expected new order) w
  accesses _ w = Err Misuse

-- memory may be refused where an atomic is made
abbrev pub needs_memory : AtomicOp → Bool
needs_memory (New numbers value) = true
needs_memory _ = false
