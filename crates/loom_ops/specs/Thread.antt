-- The threads that replies hold.
use Rattle.std.specs.Prelude.{ℕ, Option, Some, None}
use Rattle.loom_objects.specs.declared.operation.Request.TheVariants.{Fail, Thread as OnThread}
use Rattle.loom_objects.specs.declared.operation.Reply.{Reply}
use Rattle.loom_objects.specs.declared.operation.Reply.TheVariants.{AccessError as GivenBack, Spawned, Thread as ThreadIs}
use Rattle.loom_objects.specs.declared.operation.ThreadOp.TheVariants.{End, Exit, Finish, Yield}
use Rattle.loom_objects.specs.declared.operation.Name.{Name}
use Rattle.loom_objects.specs.Operation.Labelled.{Op, bare}
use Rattle.loom_ops.specs.declared.thread.AccessError.{AccessError}
use Rattle.loom_ops.specs.declared.thread.JoinHandle.{JoinHandle}
use Rattle.loom_ops.specs.declared.thread.Leaving.{Leaving}
use Rattle.loom_ops.specs.declared.thread.Leaving.TheVariants as left
use Rattle.loom_ops.specs.declared.thread.Thread.{Thread}

-- the thread of this number, with this name
abbrev pub named : ℕ → Option Name → Thread
named thread name = record { id = record { 0 = thread }; name = name }

module _ {D : Type 0} where
  -- the thread that was spawned, its name, and its notifier
  abbrev pub join_handle : Reply D → Option JoinHandle
  join_handle (Spawned thread name notifier) = Some (record { thread = thread; name = name; notifier = notifier })
  join_handle _ = None

  -- the thread that asked which one it is
  abbrev pub thread_handle : Reply D → Option Thread
  thread_handle (ThreadIs thread name) = Some (named thread name)
  thread_handle _ = None

  -- that the thread's own value was given back
  abbrev pub access_error : Reply D → Option AccessError
  access_error GivenBack = Some (record {})
  access_error _ = None

-- a thread lets others go first
abbrev pub yielding : {D S : Type 0} → Op D S
yielding = bare (OnThread Yield)

-- at its end a thread finishes with this value, then exits, and then ends
abbrev pub leave : {D S : Type 0} → D → Leaving → Leaving × Op D S
leave value left.Finish = (left.Exit, bare (OnThread (Finish value)))
leave value left.Exit = (left.End, bare (OnThread Exit))
leave value left.End = (left.Gone, bare (OnThread End))
leave value left.Gone = (left.Gone, bare Fail)
