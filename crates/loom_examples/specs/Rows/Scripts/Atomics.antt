-- The scripts of the rows about atomics and fences.
use Rattle.std.specs.Prelude.{ℕ, List, [], ◌∷◌, codes}
use Rattle.std.specs.declared.sync.atomic.Ordering.TheVariants.{Relaxed, Release, Acquire, SeqCst}
use Rattle.loom_views.specs.declared.rt.num.change.Change.TheVariants.{Add, Max, Min, Nand, Xor}
use Rattle.loom_views.specs.declared.rt.num.Numbers.TheVariants as numbers
use Rattle.loom_objects.specs.declared.operation.Exchange.{Exchange}
use Rattle.loom_objects.specs.declared.operation.AtomicOp.TheVariants as atomic
use Rattle.loom_objects.specs.declared.operation.MutexOp.TheVariants as mutex
use Rattle.loom_objects.specs.declared.operation.ThreadOp.TheVariants as threads
use Rattle.loom_objects.specs.declared.operation.Request.TheVariants as op
use Rattle.loom_examples.specs.Scripts.Written.{Written, Do, Label, JumpTo, IfTo, UnlessTo, SpawnAt}
use Rattle.loom_examples.specs.declared.scripts.step.Value.TheVariants.{Plain, Held, Next, Both}
use Rattle.loom_examples.specs.Rows.Steps.{exit, end, yield, fail}

-- A number of 64 bits (loom's `tests/atomic_int.rs`).
abbrev pub num_a : ℕ
num_a = 11641914933775430211

-- Another one (loom's `tests/atomic_int.rs`).
abbrev pub num_b : ℕ
num_b = 13209405719799650717

-- The 64 bits of -99.
abbrev pub minus_99 : ℕ
minus_99 = 18446744073709551517

abbrev pub fails : Exchange
fails = record { expected = num_b; new = num_a; success = SeqCst; failure = SeqCst }

abbrev pub succeeds : Exchange
succeeds = record { expected = num_a; new = num_b; success = SeqCst; failure = SeqCst }

abbrev pub two_by_two : Exchange
two_by_two = record { expected = 2; new = 2; success = Relaxed; failure = Relaxed }

-- Main asserts what each function of a `u8` replies and leaves.
abbrev pub u8_functions : List Written
u8_functions =
    Do 0 (op.Atomic (atomic.New numbers.U8 67)) ∷ Do 0 (op.Atomic (atomic.Update 0 (Xor 157) SeqCst)) ∷
    UnlessTo 0 67 (codes "wrong") ∷ Do 1 (op.Atomic (atomic.Load 0 SeqCst)) ∷ UnlessTo 1 222 (codes "wrong") ∷
    Do 0 (op.Atomic (atomic.New numbers.U8 67)) ∷ Do 0 (op.Atomic (atomic.Update 0 (Nand 157) SeqCst)) ∷
    UnlessTo 0 67 (codes "wrong") ∷ Do 1 (op.Atomic (atomic.Load 0 SeqCst)) ∷ UnlessTo 1 254 (codes "wrong") ∷
    Do 0 (op.Atomic (atomic.New numbers.U8 67)) ∷ Do 0 (op.Atomic (atomic.Update 0 (Max 157) SeqCst)) ∷
    UnlessTo 0 67 (codes "wrong") ∷ Do 1 (op.Atomic (atomic.Load 0 SeqCst)) ∷ UnlessTo 1 157 (codes "wrong") ∷
    Do 0 (op.Atomic (atomic.New numbers.U8 67)) ∷ Do 0 (op.Atomic (atomic.Update 0 (Min 157) SeqCst)) ∷
    UnlessTo 0 67 (codes "wrong") ∷ Do 1 (op.Atomic (atomic.Load 0 SeqCst)) ∷ UnlessTo 1 67 (codes "wrong") ∷
    Do 0 (op.Atomic (atomic.New numbers.U8 67)) ∷ Do 0 (op.Atomic (atomic.Update 0 (Add 157) SeqCst)) ∷
    UnlessTo 0 67 (codes "wrong") ∷ Do 1 (op.Atomic (atomic.Load 0 SeqCst)) ∷ UnlessTo 1 224 (codes "wrong") ∷
    Do 0 (op.Atomic (atomic.New numbers.U8 255)) ∷ Do 0 (op.Atomic (atomic.Update 0 (Add 1) SeqCst)) ∷
    UnlessTo 0 255 (codes "wrong") ∷ Do 1 (op.Atomic (atomic.Load 0 SeqCst)) ∷ UnlessTo 1 0 (codes "wrong") ∷
    Do 0 (op.Thread (threads.Finish (Plain 0))) ∷ exit ∷ end ∷ Label (codes "wrong") ∷ fail ∷ []

-- Main asserts which of 67 and -99 is the larger `i8`, and which the smaller.
abbrev pub i8_functions : List Written
i8_functions =
    Do 0 (op.Atomic (atomic.New numbers.I8 67)) ∷ Do 0 (op.Atomic (atomic.Update 0 (Max minus_99) SeqCst)) ∷
    UnlessTo 0 67 (codes "wrong") ∷ Do 1 (op.Atomic (atomic.Load 0 SeqCst)) ∷ UnlessTo 1 67 (codes "wrong") ∷
    Do 0 (op.Atomic (atomic.New numbers.I8 67)) ∷ Do 0 (op.Atomic (atomic.Update 0 (Min minus_99) SeqCst)) ∷
    UnlessTo 0 67 (codes "wrong") ∷ Do 1 (op.Atomic (atomic.Load 0 SeqCst)) ∷
    UnlessTo 1 minus_99 (codes "wrong") ∷ Do 0 (op.Thread (threads.Finish (Plain 0))) ∷ exit ∷ end ∷
    Label (codes "wrong") ∷ fail ∷ []

-- Main asserts that the nand of true and true replies true and leaves false.
abbrev pub bool_nand : List Written
bool_nand =
    Do 0 (op.Atomic (atomic.New numbers.Bool 1)) ∷ Do 0 (op.Atomic (atomic.Update 0 (Nand 1) SeqCst)) ∷
    UnlessTo 0 1 (codes "wrong") ∷ Do 1 (op.Atomic (atomic.Load 0 SeqCst)) ∷ UnlessTo 1 0 (codes "wrong") ∷
    Do 0 (op.Thread (threads.Finish (Plain 0))) ∷ exit ∷ end ∷ Label (codes "wrong") ∷ fail ∷ []

-- Of two exchanges of a number, the first expects another one and fails. Main asserts that, and finishes with what is loaded
-- after the second (loom's `tests/atomic_int.rs`).
abbrev pub compare_exchange : List Written
compare_exchange =
    Do 0 (op.Atomic (atomic.New numbers.U64 num_a)) ∷ Do 0 (op.Atomic (atomic.CompareExchange 0 fails)) ∷
    UnlessTo 3 num_a (codes "wrong") ∷ Do 1 (op.Atomic (atomic.CompareExchange 0 succeeds)) ∷
    UnlessTo 1 num_a (codes "wrong") ∷ Do 2 (op.Atomic (atomic.Load 0 SeqCst)) ∷
    Do 0 (op.Thread (threads.Finish (Held 2))) ∷ exit ∷ end ∷ Label (codes "wrong") ∷ fail ∷ []

-- A thread loads without synchronizing, beside a store of main (loom's `tests/atomic.rs`).
abbrev pub unsync_race : List Written
unsync_race =
    Do 0 (op.Atomic (atomic.New numbers.U64 0)) ∷ SpawnAt 1 (codes "child") ∷
    Do 0 (op.Atomic (atomic.Store 0 1 Relaxed)) ∷ Do 0 (op.Thread (threads.Join 1 1)) ∷
    Do 0 (op.Thread (threads.Finish (Plain 0))) ∷ exit ∷ end ∷ Label (codes "child") ∷
    Do 0 (op.Atomic (atomic.UnsyncLoad 0)) ∷ Do 0 (op.Thread (threads.Finish (Plain 0))) ∷ exit ∷ end ∷ []

-- Main loads while its own mutation is open.
abbrev pub load_in_with_mut : List Written
load_in_with_mut =
    Do 0 (op.Atomic (atomic.New numbers.U64 0)) ∷ Do 0 (op.Atomic (atomic.WithMut 0)) ∷
    Do 0 (op.Atomic (atomic.Load 0 SeqCst)) ∷ Do 0 (op.Atomic (atomic.WithMutEnd 0 0)) ∷
    Do 0 (op.Thread (threads.Finish (Plain 0))) ∷ exit ∷ end ∷ []

-- Main makes a relaxed fence, which fails.
abbrev pub relaxed_fence : List Written
relaxed_fence =
    Do 0 (op.Fence Relaxed) ∷ Do 0 (op.Thread (threads.Finish (Plain 0))) ∷ exit ∷ end ∷ []

-- Main makes as many fences as a thread may raise its version, and then a relaxed one. It counts them in a mutex.
abbrev pub fences_then_relaxed : List Written
fences_then_relaxed =
    Do 0 (op.Mutex (mutex.New (Plain 0))) ∷ Label (codes "again") ∷ Do 0 (op.Fence Release) ∷
    Do 0 (op.Mutex (mutex.GetMut 0)) ∷ Do 0 (op.Mutex (mutex.Put 0 (Next 0))) ∷
    UnlessTo 0 65533 (codes "again") ∷ Do 0 (op.Fence Relaxed) ∷ Do 0 (op.Thread (threads.Finish (Plain 0))) ∷
    exit ∷ end ∷ []

-- Main loads without synchronizing, without end.
abbrev pub unsync_load_forever : List Written
unsync_load_forever =
    Do 0 (op.Atomic (atomic.New numbers.U64 0)) ∷ Label (codes "again") ∷
    Do 0 (op.Atomic (atomic.UnsyncLoad 0)) ∷ JumpTo (codes "again") ∷ []

-- Two threads set a truth value each, and then load the other's, with a fence between. Main is one of them, and finishes with
-- ten times what the other thread loaded and what it loaded itself (loom's `tests/fence.rs`).
abbrev pub sb_fences : List Written
sb_fences =
    Do 0 (op.Atomic (atomic.New numbers.Bool 0)) ∷ Do 1 (op.Atomic (atomic.New numbers.Bool 0)) ∷
    SpawnAt 2 (codes "child") ∷ Do 0 (op.Atomic (atomic.Store 1 1 Relaxed)) ∷ Do 0 (op.Fence SeqCst) ∷
    Do 1 (op.Atomic (atomic.Load 0 Relaxed)) ∷ Do 0 (op.Thread (threads.Join 2 2)) ∷
    Do 0 (op.Thread (threads.Finish (Both 0 1))) ∷ exit ∷ end ∷ Label (codes "child") ∷
    Do 0 (op.Atomic (atomic.Store 0 1 Relaxed)) ∷ Do 0 (op.Fence SeqCst) ∷
    Do 0 (op.Atomic (atomic.Load 1 Relaxed)) ∷ Do 0 (op.Thread (threads.Finish (Held 0))) ∷ exit ∷ end ∷ []

-- Two threads add 1 to the same number. Main is one of them, and finishes with ten times what the other thread read and what
-- it read itself (loom's `tests/atomic.rs`).
abbrev pub fetch_add_atomic : List Written
fetch_add_atomic =
    Do 0 (op.Atomic (atomic.New numbers.U64 0)) ∷ SpawnAt 1 (codes "child") ∷
    Do 1 (op.Atomic (atomic.Update 0 (Add 1) Relaxed)) ∷ Do 0 (op.Thread (threads.Join 1 1)) ∷
    Do 0 (op.Thread (threads.Finish (Both 0 1))) ∷ exit ∷ end ∷ Label (codes "child") ∷
    Do 0 (op.Atomic (atomic.Update 0 (Add 1) Relaxed)) ∷ Do 0 (op.Thread (threads.Finish (Held 0))) ∷ exit ∷
    end ∷ []

-- Main and a thread each store, and each add 1 to what they read. Main loads between the two. It finishes with ten times what it
-- added to and what the other thread added to.
abbrev pub two_rmw : List Written
two_rmw =
    Do 0 (op.Atomic (atomic.New numbers.U64 0)) ∷ SpawnAt 1 (codes "child") ∷
    Do 0 (op.Atomic (atomic.Store 0 10 Relaxed)) ∷ Do 0 (op.Atomic (atomic.Load 0 Relaxed)) ∷
    Do 0 (op.Atomic (atomic.Update 0 (Add 1) Relaxed)) ∷ Do 1 (op.Thread (threads.Join 1 1)) ∷
    Do 0 (op.Thread (threads.Finish (Both 0 1))) ∷ exit ∷ end ∷ Label (codes "child") ∷
    Do 0 (op.Atomic (atomic.Store 0 1 Relaxed)) ∷ Do 0 (op.Atomic (atomic.Update 0 (Add 1) Relaxed)) ∷
    Do 0 (op.Thread (threads.Finish (Held 0))) ∷ exit ∷ end ∷ []

-- Three threads whose stores and loads lead to two stores with equal places in loom's modification order.
abbrev pub orders_equal : List Written
orders_equal =
    Do 0 (op.Atomic (atomic.New numbers.U64 0)) ∷ SpawnAt 1 (codes "first") ∷
    Do 0 (op.Atomic (atomic.Store 0 3 Relaxed)) ∷ SpawnAt 2 (codes "second") ∷
    Do 0 (op.Atomic (atomic.Load 0 Relaxed)) ∷ Do 0 (op.Thread (threads.Finish (Plain 0))) ∷ exit ∷ end ∷
    Label (codes "first") ∷ Do 0 (op.Atomic (atomic.Store 0 0 Relaxed)) ∷
    Do 0 (op.Atomic (atomic.Store 0 0 Relaxed)) ∷ Do 0 (op.Atomic (atomic.Update 0 (Add 1) Relaxed)) ∷
    JumpTo (codes "finish") ∷ Label (codes "second") ∷ Do 0 (op.Atomic (atomic.Load 0 Relaxed)) ∷
    Do 0 (op.Atomic (atomic.CompareExchange 0 two_by_two)) ∷ Label (codes "finish") ∷
    Do 0 (op.Thread (threads.Finish (Plain 0))) ∷ exit ∷ end ∷ []

-- Three threads, of which each adds to one atomic twice. Main is one of them, and joins the others.
abbrev pub three_adds : List Written
three_adds =
    Do 0 (op.Atomic (atomic.New numbers.U64 0)) ∷ SpawnAt 1 (codes "child") ∷ SpawnAt 2 (codes "child") ∷
    Do 0 (op.Atomic (atomic.Update 0 (Add 1) Relaxed)) ∷ Do 0 (op.Atomic (atomic.Update 0 (Add 1) Relaxed)) ∷
    Do 0 (op.Thread (threads.Join 1 1)) ∷ Do 0 (op.Thread (threads.Join 2 2)) ∷ JumpTo (codes "finish") ∷
    Label (codes "child") ∷ Do 0 (op.Atomic (atomic.Update 0 (Add 1) Relaxed)) ∷
    Do 0 (op.Atomic (atomic.Update 0 (Add 1) Relaxed)) ∷ Label (codes "finish") ∷
    Do 0 (op.Thread (threads.Finish (Plain 0))) ∷ exit ∷ end ∷ []

-- One thread stores to one flag, and another thread to another. Two threads each wait for one of the flags, one for the one
-- and one for the other, and then finish with what they load from the other flag. Main stores to the first flag, joins the
-- two, and finishes with the sum of what they loaded (loom's `tests/spec.rs`).
abbrev pub acq_rel : List Written
acq_rel =
    Do 0 (op.Atomic (atomic.New numbers.Bool 0)) ∷ Do 1 (op.Atomic (atomic.New numbers.Bool 0)) ∷
    SpawnAt 2 (codes "first") ∷ SpawnAt 3 (codes "second") ∷ SpawnAt 4 (codes "third") ∷
    Do 0 (op.Atomic (atomic.Store 0 1 Release)) ∷ Do 0 (op.Thread (threads.Join 3 3)) ∷
    Do 1 (op.Thread (threads.Join 4 4)) ∷ IfTo 0 1 (codes "one more") ∷
    Do 0 (op.Thread (threads.Finish (Held 1))) ∷ JumpTo (codes "exit") ∷ Label (codes "one more") ∷
    Do 0 (op.Thread (threads.Finish (Next 1))) ∷ Label (codes "exit") ∷ exit ∷ end ∷ Label (codes "first") ∷ Do 0 (op.Atomic (atomic.Store 1 1 Release)) ∷
    Do 0 (op.Thread (threads.Finish (Plain 0))) ∷ exit ∷ end ∷ Label (codes "second") ∷
    Do 0 (op.Atomic (atomic.Load 0 Acquire)) ∷ UnlessTo 0 1 (codes "second yield") ∷
    Do 1 (op.Atomic (atomic.Load 1 Acquire)) ∷ Do 0 (op.Thread (threads.Finish (Held 1))) ∷
    JumpTo (codes "exit") ∷ Label (codes "second yield") ∷ yield ∷ JumpTo (codes "second") ∷
    Label (codes "third") ∷ Do 0 (op.Atomic (atomic.Load 1 Acquire)) ∷ UnlessTo 0 1 (codes "yield") ∷
    Do 1 (op.Atomic (atomic.Load 0 Acquire)) ∷ Do 0 (op.Thread (threads.Finish (Held 1))) ∷
    JumpTo (codes "exit") ∷ Label (codes "yield") ∷ yield ∷ JumpTo (codes "third") ∷ []

-- Main and a thread each raise a flag, and then wait for the other's without a yield. Main joins the thread.
abbrev pub spinners : List Written
spinners =
    Do 0 (op.Atomic (atomic.New numbers.Bool 0)) ∷ Do 1 (op.Atomic (atomic.New numbers.Bool 0)) ∷
    SpawnAt 2 (codes "child") ∷ Do 0 (op.Atomic (atomic.Store 0 1 Release)) ∷ Label (codes "main waits") ∷
    Do 0 (op.Atomic (atomic.Load 1 Acquire)) ∷ UnlessTo 0 1 (codes "main waits") ∷
    Do 0 (op.Thread (threads.Join 2 2)) ∷ Do 0 (op.Thread (threads.Finish (Plain 0))) ∷ exit ∷ end ∷
    Label (codes "child") ∷ Do 0 (op.Atomic (atomic.Store 1 1 Release)) ∷ Label (codes "child waits") ∷
    Do 0 (op.Atomic (atomic.Load 0 Acquire)) ∷ UnlessTo 0 1 (codes "child waits") ∷
    Do 0 (op.Thread (threads.Finish (Plain 0))) ∷ exit ∷ end ∷ []

-- Main and a thread wait for flags that nobody raises.
abbrev pub spinners_forever : List Written
spinners_forever =
    Do 0 (op.Atomic (atomic.New numbers.Bool 0)) ∷ Do 1 (op.Atomic (atomic.New numbers.Bool 0)) ∷
    SpawnAt 2 (codes "child") ∷ Label (codes "main waits") ∷ Do 0 (op.Atomic (atomic.Load 1 Acquire)) ∷
    UnlessTo 0 1 (codes "main waits") ∷ Do 0 (op.Thread (threads.Join 2 2)) ∷
    Do 0 (op.Thread (threads.Finish (Plain 0))) ∷ exit ∷ end ∷
    Label (codes "child") ∷ Do 0 (op.Atomic (atomic.Load 0 Acquire)) ∷ UnlessTo 0 1 (codes "child") ∷
    Do 0 (op.Thread (threads.Finish (Plain 0))) ∷ exit ∷ end ∷ []
