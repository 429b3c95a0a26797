-- The scripts of the rows for walks: one schedule in very many fails.
use Rattle.std.specs.Prelude.{List, [], ◌∷◌, codes}
use Rattle.std.specs.declared.sync.atomic.Ordering.TheVariants.{Relaxed}
use Rattle.loom_views.specs.declared.rt.num.Numbers.TheVariants as numbers
use Rattle.loom_objects.specs.declared.operation.AtomicOp.TheVariants as atomic
use Rattle.loom_objects.specs.declared.operation.ThreadOp.TheVariants as threads
use Rattle.loom_objects.specs.declared.operation.Request.TheVariants as op
use Rattle.loom_examples.specs.Scripts.Written.{Written, Do, Store, Label, JumpTo, UnlessTo, SpawnAt}
use Rattle.loom_examples.specs.declared.scripts.step.Value.TheVariants.{Plain, Next, Both}
use Rattle.loom_examples.specs.Rows.Steps.{exit, end, fail}

abbrev pub finish : Written
finish = Do 0 (op.Thread (threads.Finish (Plain 7)))

abbrev pub load : Written
load = Do 0 (op.Atomic (atomic.Load 0 Relaxed))

abbrev pub count : Written
count = Store 0 (Next 0) Relaxed

-- Three threads, of which each loads twice from the next one's atomic, and then stores 1 and 2 to its own. Both children load 1
-- and then 2 in few runs, and then main's assertion fails.
abbrev pub three_planted : List Written
three_planted =
    Do 0 (op.Atomic (atomic.New numbers.U64 0)) ∷ Do 1 (op.Atomic (atomic.New numbers.U64 0)) ∷
    Do 2 (op.Atomic (atomic.New numbers.U64 0)) ∷ SpawnAt 3 (codes "first") ∷ SpawnAt 4 (codes "second") ∷
    Do 0 (op.Atomic (atomic.Load 1 Relaxed)) ∷ Do 1 (op.Atomic (atomic.Load 1 Relaxed)) ∷
    Do 0 (op.Atomic (atomic.Store 0 1 Relaxed)) ∷ Do 0 (op.Atomic (atomic.Store 0 2 Relaxed)) ∷
    Do 0 (op.Thread (threads.Join 3 3)) ∷ UnlessTo 0 12 (codes "finish") ∷
    Do 1 (op.Thread (threads.Join 4 4)) ∷ UnlessTo 1 12 (codes "finish") ∷ fail ∷ Label (codes "finish") ∷ finish ∷ exit ∷ end ∷
    Label (codes "first") ∷ Do 0 (op.Atomic (atomic.Load 2 Relaxed)) ∷ Do 1 (op.Atomic (atomic.Load 2 Relaxed)) ∷
    Do 0 (op.Atomic (atomic.Store 1 1 Relaxed)) ∷ Do 0 (op.Atomic (atomic.Store 1 2 Relaxed)) ∷ JumpTo (codes "both") ∷
    Label (codes "second") ∷ Do 0 (op.Atomic (atomic.Load 0 Relaxed)) ∷ Do 1 (op.Atomic (atomic.Load 0 Relaxed)) ∷
    Do 0 (op.Atomic (atomic.Store 2 1 Relaxed)) ∷ Do 0 (op.Atomic (atomic.Store 2 2 Relaxed)) ∷ Label (codes "both") ∷
    Do 0 (op.Thread (threads.Finish (Both 0 1))) ∷ exit ∷ end ∷ []

-- Four threads count in one atomic, six times each, by a load and a store. Main joins them. Where nearly all of that is lost its
-- assertion fails.
abbrev pub five_counting : List Written
five_counting =
    Do 0 (op.Atomic (atomic.New numbers.U64 0)) ∷ SpawnAt 1 (codes "worker") ∷ SpawnAt 2 (codes "worker") ∷
    SpawnAt 3 (codes "worker") ∷ SpawnAt 4 (codes "worker") ∷ Do 1 (op.Thread (threads.Join 1 1)) ∷
    Do 1 (op.Thread (threads.Join 2 2)) ∷ Do 1 (op.Thread (threads.Join 3 3)) ∷ Do 1 (op.Thread (threads.Join 4 4)) ∷
    load ∷ UnlessTo 0 2 (codes "finish") ∷ fail ∷ Label (codes "finish") ∷ finish ∷ exit ∷ end ∷ Label (codes "worker") ∷
    load ∷ count ∷ load ∷ count ∷ load ∷ count ∷ load ∷ count ∷ load ∷ count ∷ load ∷ count ∷ finish ∷ exit ∷ end ∷ []
