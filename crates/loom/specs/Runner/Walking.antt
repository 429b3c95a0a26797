-- What a walk of a closure promises. What one run is says `loom/specs/Runner/Made.antt`. Each run that a walk makes is the one by its own
-- choices: it begins with the path that follows them, as a replay of them does.
use Rattle.std.specs.Prelude.{ℕ, suc, ◌≡◌, ◌<◌, ◌+◌, ◌⊎◌, true, false, List, [], ◌∷◌, length, None, Some, Result, Ok, Err, Vec}
use Rattle.std.specs.declared.alloc.Global.{Global}
use Rattle.std.specs.declared.time.Duration.{Duration}
use Rattle.loom_objects.specs.declared.choice.Choice.{Choice}
use Rattle.loom_objects.specs.declared.failure.Failure.{Failure}
use Rattle.loom_engine.specs.declared.rt.execution.Limits.{Limits}
use Rattle.loom_engine.specs.Path.Drawn.{led_by}
use Rattle.loom_engine.specs.Path.Route.{Route, chosen}
use Rattle.loom.specs.declared.model.Replay.TheVariants as replay
use Rattle.loom.specs.declared.model.builder.Builder.{Builder}
use Rattle.loom.specs.declared.model.error.CheckError.{CheckError}
use Rattle.loom.specs.declared.model.walk.Walk.{Walk}
use Rattle.loom.specs.declared.model.walk.Walked.{Walked}
use Rattle.loom.specs.declared.model.walk.Walked.TheVariants as walked
use Rattle.loom.specs.Model.Check.{HasLasted}
use Rattle.loom.specs.Model.Different.{TellsDifferent, hash_of}
use Rattle.loom.specs.Model.Settings.{tested}
use Rattle.loom.specs.Model.Walking.{asked_runs, is_cut}
use Rattle.loom.specs.declared.runner.drawn.DrawnEnd.{DrawnEnd}
use Rattle.loom.specs.declared.runner.drawn.DrawnEnd.TheVariants.{Ended, Cut, Failed}
use Rattle.loom.specs.declared.runner.error.RunnerError.{RunnerError}
use Rattle.loom.specs.declared.runner.error.RunnerError.TheVariants as error
use Rattle.loom.specs.declared.runner.stop.Stop.{Stop}
use Rattle.loom.specs.declared.runner.stop.Stop.TheVariants as stop
use Rattle.loom.specs.Runner.Check.{limits_of}
use Rattle.loom.specs.Runner.Drawn.{SettlesDrawn, led_log}
use Rattle.loom.specs.Runner.Handle.{Teller}
use Rattle.loom.specs.Runner.Histories.{Log, Share, end_in, failed_by, last_event}
use Rattle.loom.specs.Runner.Made.{Given, Made, MadeBy}
use Rattle.loom.specs.Runner.Refusals.{ComesToValue}
use Rattle.loom.specs.Runner.Replay.{Replays, following}
use Rattle.loom.specs.Runner.Run.{Checked, Gave, HasFailed, WasCalled}

-- ---- the state at the end of a run

-- the run was cut by its length
pub record WasCut {D : Type 0} (log : Log D) : Type 0 where
  pub failure : Failure
  pub failed : failed_by (last_event log.history) ≡ Some failure
  pub cut : is_cut failure.kind ≡ true

module _ {D V : Type 0} (takes : V → List Choice → D → V → Type 0) (limits : Limits) where
  abbrev pub EndsSo : V → Route → Log D → List (Share D) → DrawnEnd → V → Type 0
  EndsSo v began log told (Ended hash) v' = Checked limits began log told × Gave takes v log v' × (hash ≡ hash_of (chosen log.now.route))
  EndsSo v began log told Cut v' = Checked limits began log told × WasCut log × (v' ≡ v)
  EndsSo v began log told (Failed failure choices) v' = Checked limits began log told × HasFailed log failure choices.items × (is_cut failure.kind ≡ false) × (v' ≡ v)

  -- How a run ended whose choices were drawn, by the state at its end: so as where the path was given its choices.
  abbrev pub JudgedDrawn : V → Route → Log D → List (Share D) → DrawnEnd → V → Type 0
  JudgedDrawn v began log told end v' = EndsSo v (led_by (chosen log.now.route) began) (led_log (chosen log.now.route) log) told end v'

module _ {D : Type 0} where
  -- The state isn't settled: the run was spoiled by a failure that is no event; or it began otherwise or didn't draw its choices, or some
  -- thread's operations and replies aren't its part of the history; or the history has no end.
  abbrev pub IsUnsettledDrawn : Log D → Route → Limits → List (Share D) → Type 0
  IsUnsettledDrawn log began limits told = ((failure : Failure) × (log.spoiled ≡ Some (stop.Failure failure))) ⊎ ((SettlesDrawn log began limits told → ⊥) ⊎ (end_in log.history ≡ None))

-- why the state makes no end of the run, and that the visitor wasn't given it, unless that was where memory was refused
module _ {D V : Type 0} (limits : Limits) where
  abbrev pub IsNotJudgedDrawn : V → Route → Log D → List (Share D) → RunnerError → V → Type 0
  IsNotJudgedDrawn v began log told (error.Settings why) v' = ⊥
  IsNotJudgedDrawn v began log told (error.Changed change) v' = ⊥
  IsNotJudgedDrawn v began log told error.Refused v' = v' ≡ v
  IsNotJudgedDrawn v began log told error.NotSettled v' = IsUnsettledDrawn log began limits told × (v' ≡ v)
  IsNotJudgedDrawn v began log told error.Memory v' = (v' ≡ v) ⊎ (Checked limits (led_by (chosen log.now.route) began) (led_log (chosen log.now.route) log) told × ComesToValue log)

-- ---- one run

-- the run is the one by its own choices, from this path on
abbrev pub IsByItsChoices : {D : Type 0} → Route → Made D → Type 0
IsByItsChoices path m = m.began ≡ led_by (chosen m.log.now.route) path

module _ {D F : Type 0} (called : F → Teller D → Result D Stop → F → Teller D → Type 0) (limits : Limits) where
  -- a call of the closure has made a run from this path on whose end isn't settled
  pub record IsLeftUnsettled (f : F) (path : Route) : Type 0 where
    pub after : F
    pub log : Log D
    pub told : List (Share D)
    pub call : WasCalled called f after told
    pub unsettled : IsUnsettledDrawn log path limits told

module _ {D F V : Type 0} (called : F → Teller D → Result D Stop → F → Teller D → Type 0) (takes : V → List Choice → D → V → Type 0) (limits : Limits) where
  -- How a run ended that a call of the closure has made from this path on, whose choices were drawn.
  abbrev pub WasDrawn : F → V → Route → DrawnEnd → F → V → Type 0
  WasDrawn f v path (Ended hash) f' v' = (m : Made D) × IsByItsChoices path m × (hash ≡ hash_of (chosen m.log.now.route)) × Given called takes limits f v m f' v'
  WasDrawn f v path Cut f' v' = (m : Made D) × IsByItsChoices path m × MadeBy called takes limits f m f' × WasCut m.log × (v' ≡ v)
  WasDrawn f v path (Failed failure choices) f' v' =
      (m : Made D) × IsByItsChoices path m × MadeBy called takes limits f m f' × HasFailed m.log failure choices.items × (is_cut failure.kind ≡ false) × (v' ≡ v)

  -- a call of the closure has made one that ended with a result
  pub record CameToResult (f : F) (path : Route) : Type 0 where
    pub run : Made D
    pub after : F
    pub by : IsByItsChoices path run
    pub made : MadeBy called takes limits f run after
    pub value : ComesToValue run.log

  -- Why such a run gave no end. The visitor wasn't given it, unless memory was refused where it was.
  abbrev pub IsNoDrawnRun : F → V → Route → RunnerError → V → Type 0
  IsNoDrawnRun f v path (error.Settings why) v' = ⊥
  IsNoDrawnRun f v path (error.Changed change) v' = ⊥
  IsNoDrawnRun f v path error.Refused v' = v' ≡ v
  IsNoDrawnRun f v path error.NotSettled v' = IsLeftUnsettled called limits f path × (v' ≡ v)
  IsNoDrawnRun f v path error.Memory v' = (v' ≡ v) ⊎ CameToResult f path

-- ---- a walk

-- Runs of a walk, one after another: the visitor was given those with these choices, the newest first, and so many were cut by
-- their length.
pub data Went {D F V : Type 0} (called : F → Teller D → Result D Stop → F → Teller D → Type 0) (takes : V → List Choice → D → V → Type 0) (b : Builder) (f : F) (v : V) : List (List Choice) → ℕ → F → V → Type 0 where
  begins : Went called takes b f v [] 0 f v
  gives : (lists : List (List Choice)) (cut : ℕ) (g f' : F) (w v' : V) (m : Made D) → Went called takes b f v lists cut g w → m.began ≡ following b (chosen m.log.now.route)
      → Given called takes (limits_of b) g w m f' v' → Went called takes b f v (chosen m.log.now.route ∷ lists) cut f' v'
  cuts : (lists : List (List Choice)) (cut : ℕ) (g f' : F) (w : V) (m : Made D) → Went called takes b f v lists cut g w → m.began ≡ following b (chosen m.log.now.route)
      → MadeBy called takes (limits_of b) g m f' → WasCut m.log → Went called takes b f v lists (suc cut) f' w

module _ {D F V : Type 0} (called : F → Teller D → Result D Stop → F → Teller D → Type 0) (takes : V → List Choice → D → V → Type 0) (b : Builder) where
  -- these are the runs of a walk
  pub record HasGone (f : F) (v v' : V) (runs cut : ℕ) : Type 0 where
    pub lists : List (List Choice)
    pub counted : length lists ≡ runs
    pub after : F
    pub went : Went called takes b f v lists cut after v'

  -- Behind them one failed, and wasn't given: a replay by its choices, which wasn't cut by its length.
  pub record Fails (f : F) (v v' : V) (runs cut : ℕ) (failure : Failure) (choices : Vec Choice Global) : Type 0 where
    pub lists : List (List Choice)
    pub counted : length lists ≡ runs
    pub before : F
    pub went : Went called takes b f v lists cut before v'
    pub replays : Replays called b choices.items before (replay.Failed failure choices)
    pub uncut : is_cut failure.kind ≡ false

  -- What a walk reports. It makes as many runs as it was asked for, unless one fails or its time is up.
  abbrev pub Walks : F → V → V → Walk → (Duration → Type 0) → Walked → Type 0
  Walks f v v' walk answered (walked.Made runs cut different) = (gone : HasGone f v v' runs cut) × TellsDifferent different gone.lists
      × ((runs + cut ≡ asked_runs walk) ⊎ ((runs + cut < asked_runs walk) × HasLasted answered b.max_duration))
  Walks f v v' walk answered (walked.Failed runs cut failure choices) = Fails f v v' runs cut failure choices × (runs + cut < asked_runs walk)

  -- The visitor was given these runs. Then the next one, one of as many as were asked for, gave no end.
  pub record BreaksOff (walk : Walk) (f : F) (v v' : V) (e : RunnerError) : Type 0 where
    pub lists : List (List Choice)
    pub cut : ℕ
    pub few : length lists + cut < asked_runs walk
    pub before : F
    pub visitor : V
    pub went : Went called takes b f v lists cut before visitor
    pub why : IsNoDrawnRun called takes (limits_of b) before visitor (following b []) e v'

  -- a setting is out of range, and no run was made; or the settings are in range, and the walk broke off
  abbrev pub IsNoWalk : Walk → F → V → V → RunnerError → Type 0
  IsNoWalk walk f v v' e = ((why : CheckError) × (e ≡ error.Settings why) × (tested b ≡ Err why) × (v' ≡ v)) ⊎ ((tested b ≡ Ok tt) × BreaksOff walk f v v' e)
