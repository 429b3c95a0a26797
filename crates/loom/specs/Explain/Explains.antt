-- What an explanation of a run promises.
use Rattle.std.specs.Prelude.{◌≡◌, List, length, Ok, Err}
use Rattle.loom_explain.specs.declared.event.End.{End}
use Rattle.loom_explain.specs.declared.event.End.TheVariants.{Ended, Failed}
use Rattle.loom_explain.specs.declared.explanation.Explanation.{Explanation}
use Rattle.loom.specs.Explain.Places.{IsPlaced, placed}
use Rattle.loom.specs.Explain.Story.{IsToldAs, Story, story_of}
use Rattle.loom.specs.declared.explain.events.telling.Told.{Told}
use Rattle.loom_engine.specs.Path.Route.{Route, chosen, trail}
use Rattle.loom_objects.specs.declared.choice.Choice.{Choice}
use Rattle.loom_engine.specs.Runs.Body.{Meaning, runs}
use Rattle.loom_engine.specs.Trees.Check.{following}
use Rattle.loom_engine.specs.Trees.Meeting.{whole_search}
use Rattle.loom.specs.declared.model.builder.Builder.{Builder}
use Rattle.loom.specs.Model.Fresh.{IsReplay}
use Rattle.loom.specs.Model.Settings.{explores}

-- the run of this body along the path is told, which leaves the other path
abbrev pub IsToldAlong : {D S : Type 0} → Meaning D S → Builder → S → Route → Told → Route → Type 0
IsToldAlong next b body old told new = IsToldAs (story_of old.search next old.explores b.max_threads b.max_steps body (trail old)) told new

-- the events and the end are those that were told, the end with its place
abbrev pub IsToldBy : Told → Explanation → Type 0
IsToldBy told e = (e.events.items ≡ told.events.items) × (e.end ≡ placed told.events.items e.choices.items told.end)

-- the choices are those of the path, and at each node of it there was something to choose of
abbrev pub IsChosenOn : Route → Explanation → Type 0
IsChosenOn path e = (e.choices.items ≡ chosen path) × (length e.options.items ≡ length path.nodes)

-- the limits are those of the settings
abbrev pub HasLimits : Builder → Explanation → Type 0
HasLimits b e = (e.max_threads ≡ b.max_threads) × (e.max_branches ≡ b.max_branches) × (e.max_steps ≡ b.max_steps)

module _ {D S : Type 0} (b : Builder) (next : Meaning D S) (body : S) (given : List Choice) where
  -- the story of the run that follows the given choices and then takes defaults
  abbrev pub told_run : Story D
  told_run = story_of (whole_search b.max_branches) next (explores b) b.max_threads b.max_steps body (following given)

  -- a replay of the given choices makes these choices and ends so
  abbrev pub IsReplayTo : List Choice → End → Type 0
  IsReplayTo made Ended = (value : D) × IsReplay b.max_branches (runs next (explores b) b.max_threads b.max_steps body) given made (Ok value)
  IsReplayTo made (Failed failure) = IsReplay b.max_branches (runs next (explores b) b.max_threads b.max_steps body) given made (Err failure.kind)

  -- what is told of a run
  pub record Explains (e : Explanation) : Type 0 where
    -- its events, each of them, in order: who got which reply, and handed over what
    pub events : e.events.items ≡ told_run.events
    -- its choices and its end
    pub ends : IsReplayTo e.choices.items e.end
    -- where it failed
    pub placed : IsPlaced e.events.items e.choices.items e.end
    -- something to choose of at each choice
    pub options : length e.options.items ≡ length e.choices.items
    -- the limits that it ran with
    pub limits : HasLimits b e
