-- The explanation of one run of closures, by its history.
use Rattle.std.specs.Prelude.{◌≡◌, ⊤, List, [], ◌∷◌, Some, Result, Ok, Err}
use Rattle.loom_explain.specs.declared.event.Event.{Event as Told}
use Rattle.loom_explain.specs.declared.event.End.{End}
use Rattle.loom_explain.specs.declared.event.End.TheVariants as end
use Rattle.loom_explain.specs.declared.explanation.Explanation.{Explanation}
use Rattle.loom_objects.specs.declared.choice.Choice.{Choice}
use Rattle.loom_objects.specs.declared.failure.Failure.{Failure}
use Rattle.loom_objects.specs.declared.operation.Reply.{Reply}
use Rattle.loom_objects.specs.declared.operation.Reply.TheVariants.{Start}
use Rattle.loom_objects.specs.declared.operation.Turn.{Turn}
use Rattle.loom_objects.specs.declared.operation.Turn.TheVariants as turn
use Rattle.loom_objects.specs.Operation.Bare.{bare_reply, bare_request}
use Rattle.loom_engine.specs.declared.rt.execution.Limits.{Limits}
use Rattle.loom_engine.specs.Path.Route.{Route}
use Rattle.loom.specs.Explain.Explains.{HasLimits, IsChosenOn}
use Rattle.loom.specs.Explain.Places.{placed}
use Rattle.loom.specs.declared.model.builder.Builder.{Builder}
use Rattle.loom.specs.declared.runner.history.event.Event.{Event}
use Rattle.loom.specs.declared.runner.stop.Stop.{Stop}
use Rattle.loom.specs.Runner.Check.{Made, limits_of}
use Rattle.loom.specs.Runner.Handle.{Teller}
use Rattle.loom.specs.Runner.Histories.{Log, Share, ended_by, failed_by, last_event}
use Rattle.loom.specs.Runner.Replay.{IsMadeAlong, following}
use Rattle.loom.specs.Runner.Run.{Checked}

module _ {D : Type 0} where
  -- the reply to the thread whose turn comes
  abbrev pub told_by : Result (Turn D) Failure → Reply ⊤
  told_by (Ok (turn.Reply thread reply)) = bare_reply reply
  told_by (Ok (turn.Start thread)) = Start
  told_by (Ok (turn.Ended value)) = Start
  told_by (Err failure) = Start

  -- the thread, which got this reply, has handed over the operation; data are left out
  abbrev pub told_event : Reply ⊤ → Event D → Told
  told_event told e = record { thread = e.by; told = told; op = record { request = bare_request e.op; label = e.label }; choices_before = e.choices_before }

  -- the events, of which the first thread got this reply
  abbrev pub told_from : Reply ⊤ → List (Event D) → List Told
  told_from told [] = []
  told_from told (e ∷ es) = told_event told e ∷ told_from (told_by e.outcome) es

  -- the events of a history: main begins
  abbrev pub told_events : List (Event D) → List Told
  told_events es = told_from Start es

  -- the history ends so
  abbrev pub IsEndOf : List (Event D) → End → Type 0
  IsEndOf es end.Ended = (value : D) × (ended_by (last_event es) ≡ Some value)
  IsEndOf es (end.Failed failure) = failed_by (last_event es) ≡ Some failure

  -- the explanation of the state at a run's end: its events, each of them, in order; its choices, with what there was to choose of;
  -- how it ended, a failure with its place; and the limits that it ran with
  pub record IsToldOf (b : Builder) (log : Log D) (e : Explanation) : Type 0 where
    pub events : e.events.items ≡ told_events log.history
    pub chosen : IsChosenOn log.now.route e
    pub end : End
    pub ends : IsEndOf log.history end
    pub placed : e.end ≡ placed e.events.items e.choices.items end
    pub limits : HasLimits b e

  -- the state at a run's end is settled, and is explained
  abbrev pub IsSettledAndTold : Limits → Builder → Route → List (Share D) → Log D → Explanation → Type 0
  IsSettledAndTold limits b began told log e = Checked limits began log told × IsToldOf b log e

module _ {D F : Type 0} (called : F → Teller D → Result D Stop → F → Teller D → Type 0) where
  -- the explanation of a run that a call of the closure has made from this path on
  abbrev pub ExplainsAlong : Limits → Builder → Route → F → Explanation → Type 0
  ExplainsAlong limits b start f e = (m : Made D) × IsMadeAlong called limits start f m × IsToldOf b m.log e

  -- the explanation of one that follows these choices and then takes defaults
  abbrev pub Explains : Builder → List Choice → F → Explanation → Type 0
  Explains b given f e = ExplainsAlong (limits_of b) b (following b given) f e
