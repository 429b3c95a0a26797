-- What a check promises: what a report says of a body's runs, and of those that the visitor was given, is `Reports`. A check that
-- begins with a path makes the runs that are left from it (`Left` of `loom_engine/specs/Trees/Resuming.antt`), and one that is
-- stopped says with which path to go on. Where the store gave no text, a report says besides what `Fresh.antt` says of a check
-- from the beginning (`fresh`).
use Rattle.std.specs.Prelude.{◌≡◌, ◌≢◌, ◌≤◌, ◌<◌, ℕ, Bool, false, List, [], ◌++◌, Option, Some, None, String, length, string_bytes}
use Rattle.std.specs.Duration.{as_nanos}
use Rattle.std.specs.declared.alloc.Global.{Global}
use Rattle.std.specs.declared.time.Duration.{Duration}
use Rattle.loom_views.specs.declared.rt.failure.FailureKind.{FailureKind}
use Rattle.loom_views.specs.declared.rt.failure.FailureKind.TheVariants.{OrdersEqual}
use Rattle.loom_objects.specs.declared.choice.Choice.{Choice}
use Rattle.loom_objects.specs.Tree.Tree.{Tree}
use Rattle.loom_engine.specs.Trees.Check.{Makes, MakesAll}
use Rattle.loom_engine.specs.Trees.Marks.{marking}
use Rattle.loom_engine.specs.Trees.Meeting.{Settings}
use Rattle.loom_engine.specs.Trees.Resuming.{HasCompletedFrom, WasStoppedFrom, HasFailedFrom}
use Rattle.loom_engine.specs.Runs.Sound.{IsRunTree}
use Rattle.loom_engine.specs.declared.rt.path.node.Node.{Node}
use Rattle.loom_engine.specs.Path.Route.{stored}
use Rattle.serde_json.specs.Written.{compact_text}
use Rattle.loom_engine.specs.Checkpoint.Grammar.{path_data}
pub use Rattle.loom.specs.Model.StoredText.{IsTextOf, ReadsAs}
use Rattle.loom.specs.Model.Settings.{explores, most_runs, search_of}
use Rattle.loom.specs.Model.Fresh.{IsCompleteReport, IsStoppedReport, IsFailedReport, WasGiven}
use Rattle.loom.specs.declared.model.builder.Builder.{Builder}
use Rattle.loom.specs.declared.model.Limit.TheVariants.{Permutations, Duration as Lasting}
use Rattle.loom.specs.declared.model.report.Report.{Report}
use Rattle.loom.specs.declared.model.report.Report.TheVariants.{Complete, Stopped, Failed}

-- ---- checks that begin with a path

module _ {D : Type 0} (s : Settings) (tree : Tree D) where
  -- A check that began with this path is complete. It made just the runs that were left, each once, none of which fails
  -- (`HasCompletedFrom`).
  pub record Completes (path : List Node) (runs : List (List Choice × D)) : Type 0 where
    pub complete : HasCompletedFrom s (marking s.bound) tree (stored path) runs
    -- from the beginning they are the reachable runs
    pub fresh : path ≡ [] → IsCompleteReport s tree runs

  -- One that made these runs is to go on with another path. What was left are these runs and, apart from them, what is left from
  -- the other path; these runs and then those of a check that goes on there and is complete are what was left, each once
  -- (`WasStoppedFrom`).
  pub record GoesOn (path : List Node) (runs : List (List Choice × D)) (last : List Node) : Type 0 where
    pub stopped : WasStoppedFrom s (marking s.bound) tree (stored path) runs (stored last)
    -- from the beginning there are more of the reachable runs
    pub fresh : path ≡ [] → IsStoppedReport s tree runs

  -- In one the run with these choices failed, after the others. It was left, and fails by itself; or it was the first one, and
  -- the path isn't one of this body's: then it is not deterministic, or it failed before that was seen (`HasFailedFrom`).
  pub record Fails (path : List Node) (runs : List (List Choice × D)) (failure : FailureKind) (failing : List Choice) : Type 0 where
    pub failed : HasFailedFrom s (marking s.bound) tree (stored path) runs failure failing
    -- from the beginning it is a reachable run
    pub fresh : path ≡ [] → IsFailedReport s tree runs failure failing

  -- ---- the rounds of a check

  -- A complete check has driven the path through the body's runs round after round, each time a step further, until no step was
  -- left.
  pub record CompletesByRounds (path : List Node) (runs : List (List Choice × D)) : Type 0 where
    pub promise : Completes path runs
    pub rounds : MakesAll s (marking s.bound) tree (stored path) runs

  -- one that is to go on has driven it so up to the other path
  pub record GoesOnByRounds (path : List Node) (runs : List (List Choice × D)) (last : List Node) : Type 0 where
    pub promise : GoesOn path runs last
    pub rounds : Makes s (marking s.bound) tree (stored path) runs (stored last)

  -- ---- checks one after another

  -- Checks from a path on, each of which but the last was stopped, and each of which went on with a text of the path to which
  -- the one before had come.
  pub data AreTogether : List Node → List (List Choice × D) → Type 0 where
    ends : (path : List Node) (runs : List (List Choice × D)) → CompletesByRounds path runs → AreTogether path runs
    goes_on : (explores : Bool) (text : List ℕ) (path last next : List Node) (runs more : List (List Choice × D)) → GoesOnByRounds path runs last
        → IsTextOf s explores text last → IsTextOf s explores text next → AreTogether next more → AreTogether path (runs ++ more)

-- Their runs, one after another, are what one check makes: from the beginning the reachable runs, each once.
abbrev pub TogetherLaw : Type 0 → Type 0
TogetherLaw D = (s : Settings) (explores : Bool) (tree : Tree D) (text : Option (List ℕ)) (path : List Node) (runs : List (List Choice × D)) → IsRunTree tree
    → ReadsAs s explores text path → AreTogether s tree path runs → CompletesByRounds s tree path runs

-- ---- stores

-- What a store may hold at a report is a text of a path that the check has reached, after all but the last runs, no more than
-- the interval.
pub record IsHeld {D : Type 0} (b : Builder) (tree : Tree D) (holds : Option (List ℕ) → Type 0) (path : List Node) (runs : List (List Choice × D)) : Type 0 where
  pub text : Option (List ℕ)
  pub held : holds text
  pub last : List Node
  pub reads : ReadsAs (search_of b) (explores b) text last
  pub before : List (List Choice × D)
  pub behind : List (List Choice × D)
  pub splits : runs ≡ before ++ behind
  pub few : length behind ≤ b.checkpoint_interval
  pub goes_on : GoesOnByRounds (search_of b) tree path before last

-- ---- limits

-- the time that the clock has answered last is as long as that, or longer
abbrev pub HasLasted : (Duration → Type 0) → Option Duration → Type 0
HasLasted answered None = ⊥
HasLasted answered (Some longest) = (time : Duration) × answered time × (as_nanos longest ≤ as_nanos time)

-- No report counts more runs than there may be, and a limit stops a check only where it is reached. Where both are reached it
-- is the number of runs that stops it.
abbrev pub StopsBy : (Duration → Type 0) → Builder → Report → Type 0
StopsBy answered b (Complete count) = count ≤ most_runs b
StopsBy answered b (Stopped count Permutations checkpoint) = count ≡ most_runs b
StopsBy answered b (Stopped count Lasting checkpoint) = (count < most_runs b) × HasLasted answered b.max_duration
StopsBy answered b (Failed count failure choices) = count < most_runs b

-- ---- places

-- a failure has no place where none is asked for
abbrev pub IsPlaced : Builder → Report → Type 0
IsPlaced b (Complete count) = Unit {0}
IsPlaced b (Stopped count limit checkpoint) = Unit {0}
IsPlaced b (Failed count failure choices) = b.location ≡ false → failure.location ≡ None

-- ---- failures

-- no run failed because the orders of two stores are equal
abbrev pub MeetsNoEqualOrders : Report → Type 0
MeetsNoEqualOrders (Complete count) = Unit {0}
MeetsNoEqualOrders (Stopped count limit checkpoint) = Unit {0}
MeetsNoEqualOrders (Failed count failure choices) = failure.kind ≢ OrdersEqual

-- ---- reports

-- how many runs a report counts
abbrev pub runs_in : Report → ℕ
runs_in (Complete count) = count
runs_in (Stopped count limit checkpoint) = count
runs_in (Failed count failure choices) = count

module _ {D : Type 0} (b : Builder) (tree : Tree D) (holds : Option (List ℕ) → Type 0) (path : List Node) (runs : List (List Choice × D)) where
  -- the text is that of the path with which to go on, and a store that tells its text holds it
  pub record StopsAt (checkpoint : List ℕ) : Type 0 where
    pub last : List Node
    pub reads : IsTextOf (search_of b) (explores b) checkpoint last
    -- it is the compact text of the path's value
    pub compact : checkpoint ≡ compact_text (path_data (search_of b) (explores b) last)
    pub held : holds (Some checkpoint)
    pub goes_on : GoesOnByRounds (search_of b) tree path runs last

  -- what a report claims of a check that began with this path and gave these runs
  abbrev pub Claims : Report → Type 0
  Claims (Complete count) = CompletesByRounds (search_of b) tree path runs
  Claims (Stopped count limit checkpoint) = StopsAt (string_bytes checkpoint)
  Claims (Failed count failure choices) = Fails (search_of b) tree path runs failure.kind choices.items

-- What a report says of the runs of a body, which are this tree, and of what the visitor was given: where the store gave what it
-- may give, and holds what it may hold, and where the clock has answered so.
pub record Reports {V D : Type 0} (takes : V → List Choice → D → V → Type 0) (old new : V) (b : Builder) (tree : Tree D) (gives holds : Option (List ℕ) → Type 0) (answered : Duration → Type 0)
    (report : Report) : Type 0 where
  -- the path with which the check began
  pub text : Option (List ℕ)
  pub gave : gives text
  pub path : List Node
  pub reads : ReadsAs (search_of b) (explores b) text path
  -- what the visitor was given
  pub runs : List (List Choice × D)
  pub given : WasGiven takes old new runs (runs_in report)
  pub says : Claims b tree holds path runs report
  pub limits : StopsBy answered b report
  pub placed : IsPlaced b report
  pub held : IsHeld b tree holds path runs

-- what a report says where nobody is given the runs, and no time passes
abbrev pub ReportsUnheard : {D : Type 0} → Builder → Tree D → (Option (List ℕ) → Type 0) → (Option (List ℕ) → Type 0) → Report → Type 0
ReportsUnheard b tree gives holds report =
    Reports {V = Unit {0}} (λ old choices value new. Unit {0}) tt tt b tree gives holds (λ time. time ≡ record { secs = 0; nanos = 0 }) report

-- no file gives no text
abbrev pub gives_file : Option (String Global) → Option (List ℕ) → Type 0
gives_file None text = text ≡ None
gives_file (Some name) text = Unit {0}

-- and a file is the store, if there is one, of which nothing is known
abbrev pub ReportsAlone : {D : Type 0} → Builder → Tree D → Report → Type 0
ReportsAlone b tree report = ReportsUnheard b tree (gives_file b.checkpoint_file) (λ text. Unit {0}) report
