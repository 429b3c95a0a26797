-- What calls of a handle hand over.
use Rattle.std.specs.Prelude.{⊤, Bool, true, false, cond, Option, Some, None, Result, Ok, Err}
use Rattle.loom_objects.specs.declared.operation.Request.{Request}
use Rattle.loom_objects.specs.declared.operation.Request.TheVariants.{Thread, Fail}
use Rattle.loom_objects.specs.declared.operation.ThreadOp.{ThreadOp}
use Rattle.loom_objects.specs.declared.operation.ThreadOp.TheVariants.{Spawn, Join, Current, Park, Unpark, Yield, Finish, Exit, End}
use Rattle.loom.specs.declared.runner.stop.Stop.{Stop}

module _ {D : Type 0} where
  -- the body's own assertion failed
  abbrev pub failing : Request D ⊤
  failing = Fail

  -- its work is over, with this result
  abbrev pub finishing : D → Request D ⊤
  finishing value = Thread (Finish value)

  abbrev pub is_reserved_of_thread : ThreadOp D ⊤ → Bool
  is_reserved_of_thread (Spawn started name) = true
  is_reserved_of_thread (Join thread notifier) = false
  is_reserved_of_thread Current = false
  is_reserved_of_thread Park = false
  is_reserved_of_thread (Unpark thread) = false
  is_reserved_of_thread Yield = false
  is_reserved_of_thread (Finish value) = true
  is_reserved_of_thread Exit = true
  is_reserved_of_thread End = true

  -- spawns and the ends of threads are handed over by the handle's own calls
  abbrev pub is_reserved : Request D ⊤ → Bool
  is_reserved (Thread op) = is_reserved_of_thread op
  is_reserved _ = false

  -- a closure that hands such a one to `call` counts as having handed over `fail`
  abbrev pub handed : Request D ⊤ → Request D ⊤
  handed op = cond (is_reserved op) failing op

  -- the operation by which a thread's work ends, for a closure that has answered so; for a stop it is `fail`
  abbrev pub last_of : Result D Stop → Option (Request D ⊤)
  last_of (Ok value) = Some (finishing value)
  last_of (Err stop) = None
