-- The scripts of the rows about wakers of futures, and places for them.
use Rattle.std.specs.Prelude.{List, [], ◌∷◌, codes}
use Rattle.std.specs.declared.sync.atomic.Ordering.TheVariants.{Release, Acquire}
use Rattle.loom_views.specs.declared.rt.num.Numbers.TheVariants as numbers
use Rattle.loom_objects.specs.declared.operation.AtomicOp.TheVariants as atomic
use Rattle.loom_objects.specs.declared.operation.AtomicWakerOp.TheVariants as place
use Rattle.loom_objects.specs.declared.operation.ThreadOp.TheVariants as threads
use Rattle.loom_objects.specs.declared.operation.WakerOp.TheVariants as waker
use Rattle.loom_objects.specs.declared.operation.Request.TheVariants as op
use Rattle.loom_examples.specs.Scripts.Written.{Written, Do, Label, JumpTo, UnlessTo, SpawnAt}
use Rattle.loom_examples.specs.declared.scripts.step.Value.TheVariants.{Plain}
use Rattle.loom_examples.specs.Rows.Steps.{exit, end, fail}

abbrev pub finish : Written
finish = Do 0 (op.Thread (threads.Finish (Plain 7)))

-- A future is ready at its first poll.
abbrev pub ready_at_once : List Written
ready_at_once =
    Do 0 (op.Waker waker.New) ∷ Do 0 (op.Waker (waker.Finish 0)) ∷ finish ∷ exit ∷ end ∷ []

-- `spurious_poll`, but a clone of the waker is left.
abbrev pub waker_leak : List Written
waker_leak =
    Do 0 (op.Waker waker.New) ∷ Do 0 (op.Waker (waker.Clone 0)) ∷ Do 0 (op.Waker (waker.Finish 0)) ∷ finish ∷
    exit ∷ end ∷ []

-- Main registers a clone of the waker in a place, and wakes by the place.
abbrev pub waker_round : List Written
waker_round =
    Do 0 (op.AtomicWaker place.New) ∷ Do 1 (op.Waker waker.New) ∷ Do 0 (op.Waker (waker.Clone 1)) ∷
    Do 0 (op.AtomicWaker (place.Register 0 1)) ∷ Do 0 (op.AtomicWaker (place.Wake 0)) ∷
    Do 0 (op.Waker (waker.Finish 1)) ∷ finish ∷ exit ∷ end ∷ []

-- Main waits for a future, whose only waker a thread has taken by a wake when the wait takes effect.
abbrev pub wait_taken : List Written
wait_taken =
    Do 0 (op.Waker waker.New) ∷ SpawnAt 1 (codes "child") ∷ Do 0 (op.Waker (waker.Wait 0)) ∷
    Label (codes "finish") ∷ finish ∷ exit ∷ end ∷ Label (codes "child") ∷ Do 0 (op.Waker (waker.Wake 0)) ∷
    JumpTo (codes "finish") ∷ []

-- Main registers a waker in a place, drops it, and wakes by the place.
abbrev pub wake_dropped : List Written
wake_dropped =
    Do 0 (op.Waker waker.New) ∷ Do 1 (op.AtomicWaker place.New) ∷ Do 0 (op.AtomicWaker (place.Register 1 0)) ∷
    Do 0 (op.Waker (waker.Drop 0)) ∷ Do 0 (op.AtomicWaker (place.Wake 1)) ∷ finish ∷ exit ∷ end ∷ []

-- Main polls until it finds a gate open. At the first poll it makes a thread that opens the gate and wakes main. Main
-- finishes with the number of its polls, and asserts that they are three at most (loom's `tests/futures.rs`).
abbrev pub spurious_poll : List Written
spurious_poll =
    Do 0 (op.Atomic (atomic.New numbers.Bool 0)) ∷ Do 1 (op.Waker waker.New) ∷ Do 0 (op.Waker (waker.Clone 1)) ∷
    SpawnAt 2 (codes "child") ∷ Do 0 (op.Atomic (atomic.Load 0 Acquire)) ∷ UnlessTo 0 1 (codes "main wait") ∷
    Do 0 (op.Waker (waker.Finish 1)) ∷ Do 0 (op.Thread (threads.Finish (Plain 1))) ∷ JumpTo (codes "exit") ∷
    Label (codes "main wait") ∷ Do 0 (op.Waker (waker.Wait 1)) ∷ Do 0 (op.Atomic (atomic.Load 0 Acquire)) ∷
    UnlessTo 0 1 (codes "wait") ∷ Do 0 (op.Waker (waker.Finish 1)) ∷
    Do 0 (op.Thread (threads.Finish (Plain 2))) ∷ JumpTo (codes "exit") ∷ Label (codes "wait") ∷
    Do 0 (op.Waker (waker.Wait 1)) ∷ Do 0 (op.Atomic (atomic.Load 0 Acquire)) ∷ UnlessTo 0 1 (codes "wrong") ∷
    Do 0 (op.Waker (waker.Finish 1)) ∷ Do 0 (op.Thread (threads.Finish (Plain 3))) ∷ Label (codes "exit") ∷
    exit ∷ end ∷ Label (codes "wrong") ∷ fail ∷ Label (codes "child") ∷
    Do 0 (op.Atomic (atomic.Store 0 1 Release)) ∷ Do 0 (op.Waker (waker.Wake 1)) ∷ finish ∷
    JumpTo (codes "exit") ∷ []
