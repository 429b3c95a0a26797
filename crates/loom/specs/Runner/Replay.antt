-- What one run of closures by given choices promises.
use Rattle.std.specs.Prelude.{◌≡◌, List, [], Option, Some, None, Result, Vec}
use Rattle.std.specs.declared.alloc.Global.{Global}
use Rattle.loom_engine.specs.Trees.Meeting.{whole_search}
use Rattle.loom_objects.specs.declared.choice.Choice.{Choice}
use Rattle.loom_engine.specs.declared.rt.execution.Limits.{Limits}
use Rattle.loom_engine.specs.Path.Route.{Route, at_rest, chosen}
use Rattle.loom.specs.declared.model.builder.Builder.{Builder}
use Rattle.loom.specs.declared.model.Replay.{Replay}
use Rattle.loom.specs.declared.model.Replay.TheVariants.{Ended, Failed}
use Rattle.loom.specs.Model.Settings.{explores}
use Rattle.loom.specs.declared.runner.stop.Stop.{Stop}
use Rattle.loom.specs.Runner.Histories.{last_event, ended_by, failed_by}
use Rattle.loom.specs.Runner.Handle.{Teller, newcomer}
use Rattle.loom.specs.Runner.Check.{Made, Settled, limits_of}

-- the path that follows these choices and then takes defaults
abbrev pub following : Builder → List Choice → Route
following b given = record (at_rest (whole_search b.max_branches) (explores b) []) { given = given }

-- the run with these choices and this result was kept
abbrev pub HasKept : {D : Type 0} → List Choice → D → Option (Vec Choice Global × D) → Type 0
HasKept choices value None = ⊥
HasKept choices value (Some (kept, result)) = (kept.items ≡ choices) × (result ≡ value)

-- how one run ends that a call of the closure has made, which begins with this path: it ended or failed as its history says, with
-- the history's choices
module _ {D F : Type 0} (called : F → Teller D → Result D Stop → F → Teller D → Type 0) (limits : Limits) (start : Route) (f : F) where
  pub record IsMadeAlong (m : Made D) : Type 0 where
    pub began : m.began ≡ start
    pub after : F
    pub call : called f (newcomer 0) m.answer after m.handle
    pub settled : Settled limits m

  abbrev pub ReplaysAlong : Replay D → Type 0
  ReplaysAlong (Ended choices value) =
      (m : Made D) × IsMadeAlong m × (ended_by (last_event m.log.history) ≡ Some value) × (choices.items ≡ chosen m.log.now.route)
  ReplaysAlong (Failed failure choices) =
      (m : Made D) × IsMadeAlong m × (failed_by (last_event m.log.history) ≡ Some failure) × (choices.items ≡ chosen m.log.now.route)

-- one run of a builder by given choices: it begins with the path that follows them
abbrev pub Replays : {D F : Type 0} → (F → Teller D → Result D Stop → F → Teller D → Type 0) → Builder → List Choice → F → Replay D → Type 0
Replays called b given f = ReplaysAlong called (limits_of b) (following b given) f
