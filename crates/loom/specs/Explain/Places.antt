-- Where a run failed, by its choices and its events.
use Rattle.std.specs.Prelude.{ℕ, ◌≡◌, ◌==◌, cond, List, [], ◌∷◌, Option, Some, None}
use Rattle.loom_objects.specs.declared.choice.Choice.{Choice}
use Rattle.loom_objects.specs.declared.choice.Choice.TheVariants.{Thread, Load, Spurious}
use Rattle.loom_objects.specs.declared.location.Location.{Location}
use Rattle.loom_objects.specs.Label.{location_in}
use Rattle.loom_explain.specs.declared.event.Event.{Event}
use Rattle.loom_explain.specs.declared.event.End.{End}
use Rattle.loom_explain.specs.declared.event.End.TheVariants.{Ended, Failed}

-- the thread that is active once this was chosen, where this one was before
abbrev pub active_by : ℕ → Choice → ℕ
active_by thread (Thread (Some next)) = next
active_by thread (Thread None) = thread
active_by thread (Load slot) = thread
active_by thread (Spurious wakes) = thread

-- the thread that is active after these choices, where this one was before: the one that was chosen last to go on
abbrev pub active_after : ℕ → List Choice → ℕ
active_after thread [] = thread
active_after thread (choice ∷ choices) = active_after (active_by thread choice) choices

-- where the thread's last operation of these was made, or this place where it has none
abbrev pub place_after : Option Location → ℕ → List Event → Option Location
place_after place thread [] = place
place_after place thread (event ∷ events) = place_after (cond (event.thread == thread) (location_in event.op.label) place) thread events

-- where the last operation of the active thread was made, if it named a place; main is active first
abbrev pub active_place : List Event → List Choice → Option Location
active_place events choices = place_after None (active_after 0 choices) events

-- a failure has the place of the last operation of the thread that was active
abbrev pub IsPlaced : List Event → List Choice → End → Type 0
IsPlaced events choices Ended = Unit {0}
IsPlaced events choices (Failed failure) = failure.location ≡ active_place events choices

-- the end, with that place
abbrev pub placed : List Event → List Choice → End → End
placed events choices Ended = Ended
placed events choices (Failed failure) = Failed (record failure { location = active_place events choices })
