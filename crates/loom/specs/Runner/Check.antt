-- What a check of closures promises. What one run is says `loom/specs/Runner/Made.antt`: a call of the closure has made it
-- (`MadeBy`), its history is one of the machine (`Settled`), and if it ended the visitor is given it (`Given`). The first run begins
-- with the path of the text that the store gave, if it gave one, and each other one goes on where the last one's path steps to
-- (`Rounds`). What a report says of them is `Reports`. What closures will hand over isn't known before they do, so a run's machine
-- is that of its own history (`loom/specs/Runner/Chains.antt`).
use Rattle.std.specs.Prelude.{ℕ, ◌≡◌, ◌≢◌, ◌<◌, ◌≤◌, Bool, List, [], ◌∷◌, ◌++◌, length, map, Option, Some, None, Result, string_bytes}
use Rattle.std.specs.declared.time.Duration.{Duration}
use Rattle.serde_json.specs.Written.{compact_text}
use Rattle.loom_views.specs.declared.rt.failure.FailureKind.TheVariants.{NotDeterministic}
use Rattle.loom_objects.specs.declared.choice.Choice.{Choice}
use Rattle.loom_objects.specs.declared.failure.Failure.{Failure}
use Rattle.loom_engine.specs.Walk.Lists.{Member, IsOnce}
use Rattle.loom_engine.specs.declared.rt.execution.Limits.{Limits}
use Rattle.loom_engine.specs.declared.rt.path.node.Node.{Node}
use Rattle.loom_engine.specs.Checkpoint.Grammar.{path_data}
use Rattle.loom_engine.specs.Path.Route.{Route, at_rest, chosen}
use Rattle.loom_engine.specs.Trees.Meeting.{Settings}
use Rattle.loom.specs.declared.model.builder.Builder.{Builder}
use Rattle.loom.specs.declared.model.report.Report.{Report}
use Rattle.loom.specs.declared.model.report.Report.TheVariants as report
use Rattle.loom.specs.Model.Check.{StopsBy, runs_in}
use Rattle.loom.specs.Model.Settings.{explores, search_of}
use Rattle.loom.specs.Model.StoredText.{IsTextOf, ReadsAs}
use Rattle.loom.specs.declared.runner.stop.Stop.{Stop}
use Rattle.loom.specs.Runner.Histories.{last_event, failed_by}
use Rattle.loom.specs.Runner.Chains.{Run, GoesTo, choices_of}
use Rattle.loom.specs.Runner.Laws.{AllTried, AllTriedFrom, FailsSo}
use Rattle.loom.specs.Runner.Handle.{Teller}
pub use Rattle.loom.specs.Runner.Made.{Made, Settled, MadeBy, Given}

-- ---- runs

module _ {D : Type 0} where
  -- where it began, its history, and where that led
  abbrev pub run_of : Made D → Run D
  run_of m = record { began = m.began; history = m.log.history; now = m.log.now }

  abbrev pub runs_of : List (Made D) → List (Run D)
  runs_of ms = map run_of ms

  -- the runs' lists of choices
  abbrev pub lists_of : List (Made D) → List (List Choice)
  lists_of ms = map choices_of (runs_of ms)

-- ---- settings

-- the limits of a builder's runs
abbrev pub limits_of : Builder → Limits
limits_of b = record { max_threads = b.max_threads; max_steps = b.max_steps }

-- the path of these nodes, with which a run of a builder's check begins
abbrev pub path_of : Builder → List Node → Route
path_of b nodes = at_rest (search_of b) (explores b) nodes

-- ---- the runs of a check

module _ {D F V : Type 0} (called : F → Teller D → Result D Stop → F → Teller D → Type 0) (takes : V → List Choice → D → V → Type 0) (limits : Limits) where
  -- Runs that the visitor was given, the newest first. The first one begins with this path, each other one with the path to which
  -- the search goes on from the run before it, and so does the next one, if there is one.
  abbrev pub Rounds : Route → F → V → List (Made D) → F → V → Option Route → Type 0
  Rounds path f v [] f' v' next = (f' ≡ f) × (v' ≡ v) × (next ≡ Some path)
  Rounds path f v (m ∷ ms) f' v' next = (g : F) × (w : V) × Rounds path f v ms g w (Some m.began) × Given called takes limits g w m f' v' × GoesTo m.log.now.route next

-- ---- reports

-- a check by these settings that began with a path of these nodes
module _ {D F V : Type 0} (called : F → Teller D → Result D Stop → F → Teller D → Type 0) (takes : V → List Choice → D → V → Type 0) (b : Builder) (path : List Node) where
  abbrev pub Makes : F → V → List (Made D) → F → V → Option Route → Type 0
  Makes f v runs f' v' next = Rounds called takes (limits_of b) (path_of b path) f v runs f' v' next

  -- nothing is left that the search tries
  pub record IsComplete (f : F) (v : V) (runs : List (Made D)) (f' : F) (v' : V) (count : ℕ) : Type 0 where
    pub given : Makes f v runs f' v' None
    pub some : 0 < count
    -- each alternative that a run calls for by the settings was made, or the path with which the check began had tried it
    pub alternatives : AllTriedFrom (limits_of b) (search_of b) path (runs_of runs)
    -- from the beginning each was made
    pub fresh : path ≡ [] → AllTried (limits_of b) (search_of b) (runs_of runs)

  -- A limit was reached. The text is that of the path with which to go on, and a store that tells its text holds it.
  pub record IsStopped (holds : Option (List ℕ) → Type 0) (f : F) (v : V) (runs : List (Made D)) (f' : F) (v' : V) (checkpoint : List ℕ) : Type 0 where
    pub last : List Node
    pub given : Makes f v runs f' v' (Some (path_of b last))
    pub reads : IsTextOf (search_of b) (explores b) checkpoint last
    -- it is the compact text of the path's value
    pub compact : checkpoint ≡ compact_text (path_data (search_of b) (explores b) last)
    pub held : holds (Some checkpoint)

  -- the run behind those that were given has failed, and wasn't given
  pub record HasFailed (f : F) (v : V) (runs : List (Made D)) (f' : F) (v' : V) (failure : Failure) (choices : List Choice) : Type 0 where
    pub run : Made D
    pub before : F
    pub given : Makes f v runs before v' (Some run.began)
    pub made : MadeBy called takes (limits_of b) before run f'
    -- its last event is that failure, under these choices, which no run has made before
    pub failed : failed_by (last_event run.log.history) ≡ Some failure
    pub choices_so : choices ≡ chosen run.log.now.route
    pub new : Member choices (lists_of runs) → ⊥
    -- as not deterministic only where its history doesn't meet the path with which it began, and never as the first run from the
    -- beginning
    pub so : FailsSo (limits_of b) (search_of b) (run_of run) failure
    pub not_first : runs ≡ [] → path ≡ [] → failure.kind ≢ NotDeterministic

  -- what a report says of the runs that were given
  abbrev pub Says : (Option (List ℕ) → Type 0) → F → V → List (Made D) → F → V → Report → Type 0
  Says holds f v runs f' v' (report.Complete count) = IsComplete f v runs f' v' count
  Says holds f v runs f' v' (report.Stopped count limit checkpoint) = IsStopped holds f v runs f' v' (string_bytes checkpoint)
  Says holds f v runs f' v' (report.Failed count failure choices) = HasFailed f v runs f' v' failure choices.items

  -- What a store may hold is a text of a path that the check has reached, after all but the last of these runs, at most so many.
  pub record IsHeld (holds : Option (List ℕ) → Type 0) (f : F) (v : V) (runs : List (Made D)) (most : ℕ) : Type 0 where
    pub text : Option (List ℕ)
    pub held : holds text
    pub last : List Node
    pub reads : ReadsAs (search_of b) (explores b) text last
    pub behind : List (Made D)
    pub before : List (Made D)
    pub splits : runs ≡ behind ++ before
    pub few : length behind ≤ most
    pub closure : F
    pub visitor : V
    pub given : Makes f v before closure visitor (Some (path_of b last))

module _ {D F V : Type 0} (called : F → Teller D → Result D Stop → F → Teller D → Type 0) (takes : V → List Choice → D → V → Type 0) (b : Builder) where
  -- What a report says of a check that called this closure, and of what the visitor was given: where the store gave what it may give,
  -- and holds what it may hold, and where the clock has answered so. No list of choices comes twice.
  pub record Reports (f : F) (v v' : V) (gives holds : Option (List ℕ) → Type 0) (answered : Duration → Type 0) (report : Report) : Type 0 where
    -- the path with which the check began
    pub text : Option (List ℕ)
    pub gave : gives text
    pub path : List Node
    pub reads : ReadsAs (search_of b) (explores b) text path
    -- the runs
    pub after : F
    pub runs : List (Made D)
    pub counted : length runs ≡ runs_in report
    pub once : IsOnce (lists_of runs)
    pub says : Says called takes b path holds f v runs after v' report
    pub limits : StopsBy answered b report
    -- no more of them are behind what the store holds than the interval
    pub held : IsHeld called takes b path holds f v runs b.checkpoint_interval

  -- what a report says where no store is, and no time passes
  abbrev pub ReportsUnsaved : F → V → V → Report → Type 0
  ReportsUnsaved f v v' report = Reports f v v' (λ text. text ≡ None) (λ text. Unit {0}) (λ time. time ≡ record { secs = 0; nanos = 0 }) report

-- ---- checks one after another

-- Checks of which each but the last was stopped, and each but the first began with a text of the path to which the one before it had
-- come. The first began with the path of these nodes. Their runs are in one list, the newest first, and behind them the last check
-- goes on with the next path, if there is one.
pub data AreTogether {D F V : Type 0} (called : F → Teller D → Result D Stop → F → Teller D → Type 0) (takes : V → List Choice → D → V → Type 0) (limits : Limits) (s : Settings) (explores : Bool) (path : List Node)
    : List (Made D) → Option Route → Type 0 where
  begins : (f f' : F) (v v' : V) (runs : List (Made D)) (next : Option Route) → Rounds called takes limits (at_rest s explores path) f v runs f' v' next
      → AreTogether called takes limits s explores path runs next
  goes_on : (text : List ℕ) (last first : List Node) (f f' : F) (v v' : V) (runs more : List (Made D)) (next : Option Route)
      → AreTogether called takes limits s explores path runs (Some (at_rest s explores last)) → IsTextOf s explores text last → IsTextOf s explores text first
      → Rounds called takes limits (at_rest s explores first) f v more f' v' next → AreTogether called takes limits s explores path (more ++ runs) next

-- No list of choices comes twice in all of them. Where the last check is complete, each alternative that one of their runs calls for was
-- made, or the path with which the first one began had tried it; from the beginning each was made.
abbrev pub TogetherLaw : {D F V : Type 0} → (F → Teller D → Result D Stop → F → Teller D → Type 0) → (V → List Choice → D → V → Type 0) → Type 0
TogetherLaw called takes = (limits : Limits) (s : Settings) (explores : Bool) (text : Option (List ℕ)) (path : List Node) (runs : List (Made _)) (next : Option Route)
    → ReadsAs s explores text path → AreTogether called takes limits s explores path runs next
    → IsOnce (lists_of runs) × (next ≡ None → AllTriedFrom limits s path (runs_of runs) × (path ≡ [] → AllTried limits s (runs_of runs)))
