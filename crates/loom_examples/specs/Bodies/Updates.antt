-- What the thread with two updates does: from what it awaits and a reply, what it awaits next and its operation.
use Rattle.std.specs.Prelude.{ℕ, ◌==◌, Option, Some, None, cond}
use Rattle.std.specs.declared.sync.atomic.Ordering.TheVariants.{SeqCst}
use Rattle.loom_views.specs.declared.rt.num.Numbers.TheVariants.{U64}
use Rattle.loom_objects.specs.declared.operation.AtomicOp.TheVariants.{New, Load}
use Rattle.loom_objects.specs.declared.operation.Request.TheVariants.{Atomic as OnAtomic, Thread as OnThread, Fail}
use Rattle.loom_objects.specs.declared.operation.Reply.{Reply}
use Rattle.loom_objects.specs.declared.operation.ThreadOp.TheVariants.{Finish, Exit, End}
use Rattle.loom_objects.specs.Operation.Labelled.{Op, bare}
use Rattle.loom_ops.specs.Atomic.{atomic_handle, value_in, fetched_in, exchange, update}
use Rattle.loom_ops.specs.declared.sync.atomic.Atomic.{Atomic}
use Rattle.loom_ops.specs.declared.sync.atomic.FetchUpdate.{FetchUpdate}
use Rattle.loom_ops.specs.declared.sync.atomic.Fetched.{Fetched}
use Rattle.loom_ops.specs.declared.sync.atomic.Fetched.TheVariants.{Read, Replaced}
use Rattle.loom_examples.specs.declared.bodies.updates.Awaits.{Awaits}
use Rattle.loom_examples.specs.declared.bodies.updates.Awaits.TheVariants.{Main, TheAtomic, First, Second, TheNumber, Finished, Exited, Nothing}
use Rattle.loom_examples.specs.declared.bodies.updates.Updater.{Updater}

-- main before its first operation
abbrev pub begun : ℕ → ℕ → Updater
begun one other = record { one = one; other = other; awaits = Main }

-- the function by which the atomic is updated
abbrev pub after : ℕ → ℕ → ℕ → Option ℕ
after one other n = cond (n == one) (Some other) None

abbrev pub fails : Awaits × Op ℕ Updater
fails = (Nothing, bare Fail)

-- an update goes on with a load, or exchanges the number that was read
abbrev pub loads : FetchUpdate ℕ → Op ℕ Updater
loads u = bare (OnAtomic (Load u.atomic.number u.fetch_order))

abbrev pub exchanges : FetchUpdate ℕ → ℕ → ℕ → Op ℕ Updater
exchanges u n new = exchange u.atomic.number n new u.set_order u.fetch_order

-- the first update: the one number is exchanged for the other, and then the second update begins
abbrev pub first_turn : ℕ → ℕ → FetchUpdate ℕ → Option (Fetched ℕ) → Awaits × Op ℕ Updater
first_turn one other u (Some (Read n)) = cond (n == one) (First u, exchanges u n other) fails
first_turn one other u (Some (Replaced n)) = cond (n == one) (Second u, loads u) fails
first_turn one other u None = fails

-- the second update: nothing comes after the other number, which is then loaded
abbrev pub second_turn : ℕ → ℕ → FetchUpdate ℕ → Option (Fetched ℕ) → Awaits × Op ℕ Updater
second_turn one other u (Some (Read n)) =
    cond (n == one) (Second u, exchanges u n other)
    (cond (n == other) (TheNumber, bare (OnAtomic (Load u.atomic.number SeqCst))) fails)
second_turn one other u _ = fails

-- once the atomic is made
abbrev pub made_turn : Option (Atomic ℕ) → Awaits × Op ℕ Updater
made_turn None = fails
made_turn (Some atomic) = let u = update atomic SeqCst SeqCst in (First u, loads u)

-- once the number is loaded
abbrev pub loaded_turn : Option ℕ → Awaits × Op ℕ Updater
loaded_turn None = fails
loaded_turn (Some n) = (Finished, bare (OnThread (Finish n)))

abbrev pub turn : ℕ → ℕ → Awaits → Reply ℕ → Awaits × Op ℕ Updater
turn one other Main reply = (TheAtomic, bare (OnAtomic (New U64 one)))
turn one other TheAtomic reply = made_turn (atomic_handle reply)
turn one other (First u) reply = first_turn one other u (fetched_in (λ n. n) reply)
turn one other (Second u) reply = second_turn one other u (fetched_in (λ n. n) reply)
turn one other TheNumber reply = loaded_turn (value_in reply)
turn one other Finished reply = (Exited, bare (OnThread Exit))
turn one other Exited reply = (Nothing, bare (OnThread End))
turn one other Nothing reply = fails

-- the thread's meaning
abbrev pub next_of : Updater → Reply ℕ → Updater × Op ℕ Updater
next_of u reply =
    let next = turn u.one u.other u.awaits reply in
    (record u { awaits = next.0 }, next.1)
