-- The condition variables that replies hold.
use Rattle.std.specs.Prelude.{Option, Some, None}
use Rattle.loom_objects.specs.declared.operation.Reply.{Reply}
use Rattle.loom_objects.specs.declared.operation.Reply.TheVariants.{Condvar as CondvarMade, Waited}
use Rattle.loom_ops.specs.declared.sync.condvar.Condvar.{Condvar}
use Rattle.loom_ops.specs.declared.sync.condvar.WaitTimeoutResult.{WaitTimeoutResult}

module _ {D : Type 0} where
  -- the condition variable that was made
  abbrev pub condvar_handle : Reply D → Option Condvar
  condvar_handle (CondvarMade number) = Some (record { number = number })
  condvar_handle _ = None

  -- whether the time of a wait ran out
  abbrev pub timeout_in : Reply D → Option WaitTimeoutResult
  timeout_in (Waited number value timed_out) = Some (record { 0 = timed_out })
  timeout_in _ = None
