-- What a walk by several workers promises. Its runs come in legs, each of which a worker makes with a visitor of its own; then the visitors are
-- joined, in the order of the legs. What is reported is what a walk by one reports.
use Rattle.std.specs.Prelude.{ℕ, ◌≡◌, ◌<◌, ◌+◌, ◌⊎◌, List, [], ◌∷◌, length, Option, Some, None, IfSome, Result, Ok, Err, IfOk}
use Rattle.std.specs.declared.time.Duration.{Duration}
use Rattle.loom_objects.specs.declared.choice.Choice.{Choice}
use Rattle.loom_objects.specs.Tree.Tree.{Tree}
use Rattle.loom_engine.specs.Trees.Outcomes.{choices_made}
use Rattle.loom.specs.declared.model.builder.Builder.{Builder}
use Rattle.loom.specs.declared.model.error.CheckError.{CheckError}
use Rattle.loom.specs.declared.model.walk.Walk.{Walk}
use Rattle.loom.specs.declared.model.walk.Walked.{Walked}
use Rattle.loom.specs.declared.model.walk.Walked.TheVariants.{Made, Failed}
use Rattle.loom.specs.declared.runner.parallel.walking.Gone.{Gone}
use Rattle.loom.specs.declared.runner.parallel.walking.Leg.{Leg}
use Rattle.loom.specs.declared.runner.parallel.walking.LegDone.{LegDone}
use Rattle.loom.specs.Model.Check.{HasLasted}
use Rattle.loom.specs.Model.Different.{Adds, Counted, IsCount, Tells, TellsDifferent}
use Rattle.loom.specs.Model.Walking.{AreDrawnRuns, HasFailed, HasGiven, asked_runs}
use Rattle.loom.specs.Runner.Parallel.{AreJoined}

-- ---- what is promised

module _ {G V D : Type 0} (takes : V → List Choice → D → V → Type 0) (is_new : V → Type 0) (joins : G → V → G → Type 0) (old new : G) (b : Builder) (tree : Tree D) where
  -- the joined visitors were given these runs, so many, the newest first
  pub record HasJoined (count : ℕ) : Type 0 where
    pub runs : List (List Choice × D)
    pub joined : AreJoined takes is_new joins old runs new
    pub counted : length runs ≡ count
    pub drawn : AreDrawnRuns b.max_branches tree runs

  -- It makes as many runs as it was asked for, unless one fails or its time is up.
  abbrev pub Walks : Walk → (Duration → Type 0) → Walked → Type 0
  Walks walk answered (Made runs cut different) = (made : HasJoined runs) × TellsDifferent different (choices_made made.runs)
      × ((runs + cut ≡ asked_runs walk) ⊎ ((runs + cut < asked_runs walk) × HasLasted answered b.max_duration))
  Walks walk answered (Failed runs cut failure choices) = HasJoined runs × (runs + cut < asked_runs walk) × HasFailed b tree failure choices.items

  -- after so many runs and so many that were cut, whose hashes are noted
  pub record HasCome (gone : Gone) : Type 0 where
    pub made : HasJoined gone.runs
    pub tells : Tells gone.different (choices_made made.runs)

-- the report of a walk that has come so far
abbrev pub IsMade : Gone → Walked → Type 0
IsMade gone (Made runs cut different) = (runs ≡ gone.runs) × (cut ≡ gone.cut) × IfSome different (IsCount gone.different)
IsMade gone (Failed runs cut failure choices) = ⊥

-- ---- legs

-- these settings, but without a limit of time, and without a file
abbrev pub untimed : Builder → Builder
untimed b = record b { max_duration = None; checkpoint_file = None }

-- their visitors were given no run
abbrev pub AreNew : {V : Type 0} → (V → Type 0) → List (Leg V) → Type 0
AreNew is_new [] = Unit {0}
AreNew is_new (leg ∷ legs) = is_new leg.visitor × AreNew is_new legs

-- how many runs they have
abbrev pub asked_of : {V : Type 0} → List (Leg V) → ℕ
asked_of [] = 0
asked_of (leg ∷ legs) = asked_runs leg.walk + asked_of legs

-- how many were made before the legs' ends, or failures
abbrev pub made_by : Result Walked CheckError → ℕ
made_by (Ok (Made runs cut different)) = runs + cut
made_by (Ok (Failed runs cut failure choices)) = runs + cut
made_by (Err e) = 0

abbrev pub made_of : {V : Type 0} → List (LegDone V) → ℕ
made_of [] = 0
made_of (done ∷ later) = made_by done.walked + made_of later

module _ {V D : Type 0} (takes : V → List Choice → D → V → Type 0) (old new : V) (b : Builder) (tree : Tree D) (noted : Counted) (walk : Walk) where
  -- a leg's runs were all made, as those of this walk, or one failed
  abbrev pub MakesLeg : Walked → Type 0
  MakesLeg (Made runs cut different) = (made : HasGiven takes old new b tree runs) × Tells noted (choices_made made.runs) × (runs + cut ≡ asked_runs walk)
  MakesLeg (Failed runs cut failure choices) = HasGiven takes old new b tree runs × (runs + cut < asked_runs walk) × HasFailed b tree failure choices.items

module _ {V D : Type 0} (takes : V → List Choice → D → V → Type 0) (b : Builder) (tree : Tree D) where
  -- a leg was made, unless memory was refused
  pub record IsMadeBy (leg : Leg V) (done : LegDone V) : Type 0 where
    pub made : IfOk done.walked (MakesLeg takes leg.visitor done.visitor b tree done.different leg.walk)

  -- each of them
  abbrev pub AreMade : List (Leg V) → List (LegDone V) → Type 0
  AreMade [] [] = Unit {0}
  AreMade [] (done ∷ later) = ⊥
  AreMade (leg ∷ legs) [] = ⊥
  AreMade (leg ∷ legs) (done ∷ later) = IsMadeBy leg done × AreMade legs later

-- ---- taken back

module _ {G V : Type 0} (joins : G → V → G → Type 0) (old later : G) (done : LegDone V) (gone next : Gone) where
  -- what is done with a leg that was made: if a run of it failed the walk's answer is that
  abbrev pub IsTaken : Result Walked CheckError → Option Walked → Type 0
  IsTaken (Ok (Made runs cut different)) answer =
      joins old done.visitor later × (next.runs ≡ gone.runs + runs) × (next.cut ≡ gone.cut + cut) × Adds done.different gone.different next.different × (answer ≡ None)
  IsTaken (Ok (Failed runs cut failure choices)) answer = joins old done.visitor later × (answer ≡ Some (Failed (gone.runs + runs) (gone.cut + cut) failure choices))
  IsTaken (Err e) answer = ⊥

module _ {G V D : Type 0} (takes : V → List Choice → D → V → Type 0) (is_new : V → Type 0) (joins : G → V → G → Type 0) (first later : G) (b : Builder) (tree : Tree D) (next : Gone) (asked : ℕ) where
  -- how far the walk is with these legs, of all of which no run failed; or one did, before as many were made as were asked for
  abbrev pub HasTaken : Option Walked → Type 0
  HasTaken None = HasCome takes is_new joins first later b tree next × (next.runs + next.cut ≡ asked)
  HasTaken (Some (Made runs cut different)) = ⊥
  HasTaken (Some (Failed runs cut failure choices)) = HasJoined takes is_new joins first later b tree runs × (runs + cut < asked) × HasFailed b tree failure choices.items

-- Where these legs were made, however far the walk was before them.
abbrev pub TakesBack : {G V D : Type 0} → (V → List Choice → D → V → Type 0) → (V → Type 0) → (G → V → G → Type 0) → G → G → Gone → Gone → List (LegDone V) → Option Walked → Type 0
TakesBack takes is_new joins old later gone next list answer =
    (b : Builder) (tree : Tree _) (first : _) (legs : List (Leg _)) → AreNew is_new legs → AreMade takes b tree legs list → HasCome takes is_new joins first old b tree gone
    → HasTaken takes is_new joins first later b tree next (gone.runs + gone.cut + asked_of legs) answer
