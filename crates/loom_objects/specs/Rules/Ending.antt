-- When a run may end, and how.
use Rattle.std.specs.Prelude.{Bool, true, false, Result, Ok}
use Rattle.std.specs.List.{list_all}
use Rattle.loom_views.specs.declared.rt.failure.FailureKind.{FailureKind}
use Rattle.loom_objects.specs.declared.operation.Turn.{Turn}
use Rattle.loom_objects.specs.declared.operation.Turn.TheVariants.{Ended as TurnEnded}
use Rattle.loom_objects.specs.declared.rt.thread.State.{State}
use Rattle.loom_objects.specs.declared.rt.thread.State.TheVariants.{Ended}
use Rattle.loom_objects.specs.declared.rt.thread.Thread.{Thread}
use Rattle.loom_objects.specs.Rules.Leaks.{check_leak, first_leak}
use Rattle.loom_objects.specs.Rules.Moves.{takes_result}
use Rattle.loom_objects.specs.Rules.Rule.{◌>>=◌}
use Rattle.loom_objects.specs.World.{World}

abbrev pub is_ended : State → Bool
is_ended Ended = true
is_ended _ = false

module _ {D : Type 0} where
  abbrev pub has_ended : Thread D → Bool
  has_ended thread = is_ended thread.state

  abbrev pub all_ended : World D → Bool
  all_ended w = list_all has_ended w.threads

  -- nothing is left that must not be, and main's result is taken out
  abbrev pub end_of : World D → Result (Turn D × World D) FailureKind
  end_of w = do
    _ ← check_leak (first_leak w.objects)
    (value, taken) ← takes_result 0 w
    Ok (TurnEnded value, taken)
