-- The scripts of the first rows.
use Rattle.std.specs.Prelude.{List, [], ◌∷◌, codes}
use Rattle.std.specs.declared.sync.atomic.Ordering.TheVariants.{Relaxed, Release, Acquire}
use Rattle.loom_views.specs.declared.rt.num.Numbers.TheVariants as numbers
use Rattle.loom_objects.specs.declared.operation.AtomicOp.TheVariants as atomic
use Rattle.loom_objects.specs.declared.operation.MutexOp.TheVariants as mutex
use Rattle.loom_objects.specs.declared.operation.ThreadOp.TheVariants as threads
use Rattle.loom_objects.specs.declared.operation.Request.TheVariants as op
use Rattle.loom_examples.specs.Scripts.Written.{Written, Do, Store, Label, UnlessTo, SpawnAt}
use Rattle.loom_examples.specs.declared.scripts.step.Value.TheVariants.{Plain, Held, Next, Both}
use Rattle.loom_examples.specs.Rows.Steps.{exit, end, fail}

-- Main's assertion fails.
abbrev pub fail_at_once : List Written
fail_at_once =
    fail ∷ []

-- One thread locks a mutex and then another, a second thread the other and then the one. Main joins them.
abbrev pub two_mutexes_deadlock : List Written
two_mutexes_deadlock =
    Do 0 (op.Mutex (mutex.New (Plain 0))) ∷ Do 1 (op.Mutex (mutex.New (Plain 0))) ∷ SpawnAt 2 (codes "first") ∷
    SpawnAt 3 (codes "second") ∷ Do 0 (op.Thread (threads.Join 2 2)) ∷ Do 1 (op.Thread (threads.Join 3 3)) ∷
    Do 0 (op.Thread (threads.Finish (Plain 0))) ∷ exit ∷ end ∷ Label (codes "first") ∷
    Do 0 (op.Mutex (mutex.Lock 0)) ∷ Do 0 (op.Mutex (mutex.Lock 1)) ∷
    Do 0 (op.Mutex (mutex.Release 1 (Plain 0))) ∷ Do 0 (op.Mutex (mutex.Release 0 (Plain 0))) ∷
    Do 0 (op.Thread (threads.Finish (Plain 1))) ∷ exit ∷ end ∷ Label (codes "second") ∷
    Do 0 (op.Mutex (mutex.Lock 1)) ∷ Do 0 (op.Mutex (mutex.Lock 0)) ∷
    Do 0 (op.Mutex (mutex.Release 0 (Plain 0))) ∷ Do 0 (op.Mutex (mutex.Release 1 (Plain 0))) ∷
    Do 0 (op.Thread (threads.Finish (Plain 2))) ∷ exit ∷ end ∷ []

-- Main loads from an atomic beside a thread that stores 1 into it, and finishes with what it loaded.
abbrev pub load_beside : List Written
load_beside =
    Do 0 (op.Atomic (atomic.New numbers.U64 0)) ∷ SpawnAt 1 (codes "child") ∷
    Do 0 (op.Atomic (atomic.Load 0 Relaxed)) ∷ Do 0 (op.Thread (threads.Finish (Held 0))) ∷ exit ∷ end ∷
    Label (codes "child") ∷ Do 0 (op.Atomic (atomic.Store 0 1 Relaxed)) ∷
    Do 0 (op.Thread (threads.Finish (Plain 0))) ∷ exit ∷ end ∷ []

-- Main stores 1 to 7 into an atomic, loads from it, and finishes with what it loaded.
abbrev pub store_seven : List Written
store_seven =
    Do 0 (op.Atomic (atomic.New numbers.U64 0)) ∷ Do 0 (op.Atomic (atomic.Store 0 1 Relaxed)) ∷
    Do 0 (op.Atomic (atomic.Store 0 2 Relaxed)) ∷ Do 0 (op.Atomic (atomic.Store 0 3 Relaxed)) ∷
    Do 0 (op.Atomic (atomic.Store 0 4 Relaxed)) ∷ Do 0 (op.Atomic (atomic.Store 0 5 Relaxed)) ∷
    Do 0 (op.Atomic (atomic.Store 0 6 Relaxed)) ∷ Do 0 (op.Atomic (atomic.Store 0 7 Relaxed)) ∷
    Do 0 (op.Atomic (atomic.Load 0 Relaxed)) ∷ Do 0 (op.Thread (threads.Finish (Held 0))) ∷ exit ∷ end ∷ []

-- Two threads store 1, each into an atomic of its own, and then load from the other's. Main is one of them, and finishes
-- with ten times what the other thread loaded and what it loaded itself (loom's `tests/litmus.rs`).
abbrev pub store_buffering : List Written
store_buffering =
    Do 0 (op.Atomic (atomic.New numbers.U64 0)) ∷ Do 1 (op.Atomic (atomic.New numbers.U64 0)) ∷
    SpawnAt 2 (codes "child") ∷ Do 0 (op.Atomic (atomic.Store 1 1 Relaxed)) ∷
    Do 1 (op.Atomic (atomic.Load 0 Relaxed)) ∷ Do 0 (op.Thread (threads.Join 2 2)) ∷
    Do 0 (op.Thread (threads.Finish (Both 0 1))) ∷ exit ∷ end ∷ Label (codes "child") ∷
    Do 0 (op.Atomic (atomic.Store 0 1 Relaxed)) ∷ Do 0 (op.Atomic (atomic.Load 1 Relaxed)) ∷
    Do 0 (op.Thread (threads.Finish (Held 0))) ∷ exit ∷ end ∷ []

-- Main loads from one atomic and stores 1 into another, beside a thread that stores into the one what it loads from the
-- other. Main finishes with what it loaded (loom's `tests/litmus.rs`).
abbrev pub load_buffering : List Written
load_buffering =
    Do 0 (op.Atomic (atomic.New numbers.U64 0)) ∷ Do 1 (op.Atomic (atomic.New numbers.U64 0)) ∷
    SpawnAt 2 (codes "child") ∷ Do 0 (op.Atomic (atomic.Load 0 Relaxed)) ∷
    Do 0 (op.Atomic (atomic.Store 1 1 Relaxed)) ∷ Do 1 (op.Thread (threads.Join 2 2)) ∷
    Do 0 (op.Thread (threads.Finish (Held 0))) ∷ exit ∷ end ∷ Label (codes "child") ∷
    Do 0 (op.Atomic (atomic.Load 1 Relaxed)) ∷ Store 0 (Held 0) Relaxed ∷
    Do 0 (op.Thread (threads.Finish (Plain 0))) ∷ exit ∷ end ∷ []

-- A thread stores 1 into one atomic and releases it by a second. Where main acquires that, it asserts that it loads the 1
-- (loom's `tests/atomic_relaxed.rs`).
abbrev pub check_ordering_valid : List Written
check_ordering_valid =
    Do 0 (op.Atomic (atomic.New numbers.U64 0)) ∷ Do 1 (op.Atomic (atomic.New numbers.U64 0)) ∷
    SpawnAt 2 (codes "child") ∷ Do 0 (op.Atomic (atomic.Load 1 Acquire)) ∷ UnlessTo 0 1 (codes "finish") ∷
    Do 1 (op.Atomic (atomic.Load 0 Relaxed)) ∷ UnlessTo 1 1 (codes "wrong") ∷ Label (codes "finish") ∷
    Do 0 (op.Thread (threads.Finish (Both 0 1))) ∷ exit ∷ end ∷ Label (codes "wrong") ∷ fail ∷
    Label (codes "child") ∷ Do 0 (op.Atomic (atomic.Store 0 1 Relaxed)) ∷
    Do 0 (op.Atomic (atomic.Store 1 1 Release)) ∷ Do 0 (op.Thread (threads.Finish (Plain 0))) ∷ exit ∷ end ∷ []

-- The one before, but main doesn't acquire (loom's `tests/atomic_relaxed.rs`).
abbrev pub check_ordering_invalid_1 : List Written
check_ordering_invalid_1 =
    Do 0 (op.Atomic (atomic.New numbers.U64 0)) ∷ Do 1 (op.Atomic (atomic.New numbers.U64 0)) ∷
    SpawnAt 2 (codes "child") ∷ Do 0 (op.Atomic (atomic.Load 1 Relaxed)) ∷ UnlessTo 0 1 (codes "finish") ∷
    Do 1 (op.Atomic (atomic.Load 0 Relaxed)) ∷ UnlessTo 1 1 (codes "wrong") ∷ Label (codes "finish") ∷
    Do 0 (op.Thread (threads.Finish (Both 0 1))) ∷ exit ∷ end ∷ Label (codes "wrong") ∷ fail ∷
    Label (codes "child") ∷ Do 0 (op.Atomic (atomic.Store 0 1 Relaxed)) ∷
    Do 0 (op.Atomic (atomic.Store 1 1 Release)) ∷ Do 0 (op.Thread (threads.Finish (Plain 0))) ∷ exit ∷ end ∷ []

-- Two threads each store one more than they load. Main joins them, and asserts that 2 is loaded then (loom's
-- `tests/smoke.rs`).
abbrev pub checks_fail : List Written
checks_fail =
    Do 0 (op.Atomic (atomic.New numbers.U64 0)) ∷ SpawnAt 1 (codes "child") ∷ SpawnAt 2 (codes "child") ∷
    Do 1 (op.Thread (threads.Join 1 1)) ∷ Do 2 (op.Thread (threads.Join 2 2)) ∷
    Do 0 (op.Atomic (atomic.Load 0 Relaxed)) ∷ UnlessTo 0 2 (codes "wrong") ∷
    Do 0 (op.Thread (threads.Finish (Held 0))) ∷ exit ∷ end ∷ Label (codes "wrong") ∷ fail ∷
    Label (codes "child") ∷ Do 0 (op.Atomic (atomic.Load 0 Acquire)) ∷ Store 0 (Next 0) Release ∷
    Do 0 (op.Thread (threads.Finish (Plain 0))) ∷ exit ∷ end ∷ []
