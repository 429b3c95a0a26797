-- What comes of an effect, once the thread was chosen that it is of.
-- What a thread that was chosen comes to, by what an effect answers.
use Rattle.std.specs.Prelude.{Result, Ok, ℕ, Err}
use Rattle.loom_views.specs.declared.rt.failure.FailureKind.{FailureKind}
use Rattle.loom_objects.specs.declared.operation.Reply.{Reply}
use Rattle.loom_objects.specs.declared.operation.Turn.TheVariants as turn
use Rattle.loom_objects.specs.declared.rt.run.Passed.{Passed}
use Rattle.loom_objects.specs.declared.rt.run.Passed.TheVariants as passed
use Rattle.loom_objects.specs.declared.rt.run.Resumed.{Resumed}
use Rattle.loom_objects.specs.declared.rt.run.Resumed.TheVariants as resumed
use Rattle.loom_objects.specs.World.{World}

module _ {D : Type 0} where
  -- the active thread gets the reply
  abbrev pub replied : Reply D × World D → Result (Resumed D × World D) FailureKind
  replied (reply, w) = Ok (resumed.Passed (passed.Turn (turn.Reply w.active reply)), w)

  -- it has passed so
  abbrev pub gone : Passed D × World D → Result (Resumed D × World D) FailureKind
  gone (passed, w) = Ok (resumed.Passed passed, w)

module _ {D : Type 0} where
  -- thread t gets the reply
  abbrev pub replied_by : ℕ → Result (Reply D) FailureKind → Result (Resumed D) FailureKind
  replied_by t (Ok reply) = Ok (resumed.Passed (passed.Turn (turn.Reply t reply)))
  replied_by t (Err kind) = Err kind

  -- it has passed so
  abbrev pub passed_by : Result (Passed D) FailureKind → Result (Resumed D) FailureKind
  passed_by (Ok passed) = Ok (resumed.Passed passed)
  passed_by (Err kind) = Err kind
