-- The scripts of the rows about misuse, and about runs that reach a limit.
use Rattle.std.specs.Prelude.{List, [], ◌∷◌, codes}
use Rattle.std.specs.declared.sync.atomic.Ordering.TheVariants.{Relaxed, Release}
use Rattle.loom_views.specs.declared.rt.num.Numbers.TheVariants as numbers
use Rattle.loom_objects.specs.declared.operation.AtomicOp.TheVariants as atomic
use Rattle.loom_objects.specs.declared.operation.LocalOp.TheVariants as local
use Rattle.loom_objects.specs.declared.operation.MutexOp.TheVariants as mutex
use Rattle.loom_objects.specs.declared.operation.ThreadOp.TheVariants as threads
use Rattle.loom_objects.specs.declared.operation.Request.TheVariants as op
use Rattle.loom_examples.specs.Scripts.Written.{Written, Do, Label, JumpTo, UnlessTo, SpawnAt}
use Rattle.loom_examples.specs.declared.scripts.step.Value.TheVariants.{Plain, Next}
use Rattle.loom_examples.specs.Rows.Steps.{exit, end, yield}

abbrev pub finish : Written
finish = Do 0 (op.Thread (threads.Finish (Plain 7)))

-- Main yields without end.
abbrev pub spin_alone : List Written
spin_alone =
    Label (codes "again") ∷ yield ∷ JumpTo (codes "again") ∷ []

-- Main makes 65,534 fences, which is as often as a thread may use objects. It counts that in a mutex that nobody locks.
abbrev pub fences : List Written
fences =
    Do 0 (op.Mutex (mutex.New (Plain 0))) ∷ Label (codes "again") ∷ Do 0 (op.Fence Release) ∷
    Do 0 (op.Mutex (mutex.GetMut 0)) ∷ Do 0 (op.Mutex (mutex.Put 0 (Next 0))) ∷
    UnlessTo 0 65533 (codes "again") ∷ finish ∷ exit ∷ end ∷ []

-- The one before, with one more.
abbrev pub too_many_fences : List Written
too_many_fences =
    Do 0 (op.Mutex (mutex.New (Plain 0))) ∷ Label (codes "again") ∷ Do 0 (op.Fence Release) ∷
    Do 0 (op.Mutex (mutex.GetMut 0)) ∷ Do 0 (op.Mutex (mutex.Put 0 (Next 0))) ∷
    UnlessTo 0 65534 (codes "again") ∷ finish ∷ exit ∷ end ∷ []

-- Main stores 40,000 times into an atomic beside a thread that does it 25,535 times, which with the first value is once more
-- than an atomic may be stored into. Each counts that in a mutex of its own.
abbrev pub many_stores : List Written
many_stores =
    Do 0 (op.Atomic (atomic.New numbers.U64 0)) ∷ Do 1 (op.Mutex (mutex.New (Plain 0))) ∷
    SpawnAt 2 (codes "child") ∷ Label (codes "main again") ∷ Do 0 (op.Atomic (atomic.Store 0 1 Relaxed)) ∷
    Do 0 (op.Mutex (mutex.GetMut 1)) ∷ Do 0 (op.Mutex (mutex.Put 1 (Next 0))) ∷
    UnlessTo 0 39999 (codes "main again") ∷ finish ∷ exit ∷ end ∷ Label (codes "child") ∷
    Do 1 (op.Mutex (mutex.New (Plain 0))) ∷ Label (codes "again") ∷
    Do 0 (op.Atomic (atomic.Store 0 2 Relaxed)) ∷ Do 0 (op.Mutex (mutex.GetMut 1)) ∷
    Do 0 (op.Mutex (mutex.Put 1 (Next 0))) ∷ UnlessTo 0 25534 (codes "again") ∷ finish ∷ exit ∷ end ∷ []

-- Main finishes twice.
abbrev pub finish_twice : List Written
finish_twice =
    finish ∷ finish ∷ []

-- Main exits before it finishes.
abbrev pub exit_first : List Written
exit_first =
    exit ∷ []

-- Main changes a value of its own that it never made.
abbrev pub put_absent : List Written
put_absent =
    Do 0 (op.Local (local.Put 1 (Plain 5))) ∷ []

-- Main locks a mutex, which a thread locks and releases, and ends without a release.
abbrev pub guard_left : List Written
guard_left =
    Do 0 (op.Mutex (mutex.New (Plain 0))) ∷ SpawnAt 1 (codes "child") ∷ Do 0 (op.Mutex (mutex.Lock 0)) ∷
    finish ∷ exit ∷ end ∷ Label (codes "child") ∷ Do 0 (op.Mutex (mutex.Lock 0)) ∷
    Do 0 (op.Mutex (mutex.Release 0 (Plain 0))) ∷ finish ∷ exit ∷ end ∷ []
