-- What a covering check by several workers promises. A list of parts and a table of states to which a search has come, with the runs that were
-- given before, come by further runs to others (`HasGoneOn`). Where no part is left each run of the body is covered by all those that were
-- given (`IsComplete`).
use Rattle.std.specs.Prelude.{ℕ, ◌≡◌, ◌≤◌, ◌<◌, ◌+◌, ◌^◌, ◌⊎◌, Bool, List, [], ◌∷◌, ◌++◌, map, length, Some, Result, Ok, Err, slice_get}
use Rattle.std.specs.declared.time.Duration.{Duration}
use Rattle.loom_objects.specs.declared.choice.Choice.{Choice}
use Rattle.loom_engine.specs.Covering.Kept.{Key, Noted}
use Rattle.loom_engine.specs.Covering.Spread.{IsTableOf, SpreadsBack}
use Rattle.loom_engine.specs.Parts.Keeping.{GivesBack, IsCopy, KeepsOthers}
use Rattle.loom_engine.specs.Runs.Body.{Meaning}
use Rattle.loom_engine.specs.Walk.Lists.{IsOnce}
use Rattle.loom_engine.specs.Walk.Path.{Stored}
use Rattle.loom_engine.specs.declared.rt.parts.Part.{Part}
use Rattle.loom_engine.specs.declared.rt.parts.Parts.{Parts}
use Rattle.loom.specs.declared.model.builder.Builder.{Builder}
use Rattle.loom.specs.declared.model.Limit.TheVariants.{Permutations, Duration as Lasting}
use Rattle.loom.specs.declared.model.cover.Covered.{Covered}
use Rattle.loom.specs.declared.model.cover.Covered.TheVariants.{Complete, Livelock, Stopped, Failed}
use Rattle.loom.specs.declared.model.cover.part.PartCovered.{PartCovered}
use Rattle.loom.specs.declared.model.cover.part.PartCovered.TheVariants as part
use Rattle.loom.specs.declared.model.error.CheckError.{CheckError}
use Rattle.loom.specs.declared.runner.parallel.covering.CoverTurn.{CoverTurn}
use Rattle.loom.specs.declared.runner.parallel.covering.PartDone.{PartDone}
use Rattle.loom.specs.declared.runner.parallel.round.Job.{Job}
use Rattle.loom.specs.declared.runner.parallel.round.Lost.{Lost}
use Rattle.loom.specs.Model.Check.{HasLasted}
use Rattle.loom.specs.Model.Covered.{IsCovered}
use Rattle.loom.specs.Model.CoverParts.{Covers, FailsBy, HaveSpreadTo}
use Rattle.loom.specs.Model.Settings.{most_runs}
use Rattle.loom.specs.Runner.Parallel.{AreJoined}

-- ---- what is promised

module _ {G V D S : Type 0} (takes : V → List Choice → D → V → Type 0) (is_new : V → Type 0) (joins : G → V → G → Type 0) (b : Builder) (next : Meaning D S) (body : S) (before : List (List Choice × D)) (old later : G)
    (parts : Parts) (noted : Noted D S) where
  -- After the runs that were given before the joined visitors were given so many more, and the search has reached these parts and states.
  pub record HasGoneOn (count : ℕ) : Type 0 where
    pub given : List (List Choice × D)
    pub joined : AreJoined takes is_new joins old given later
    pub counted : length given ≡ count
    pub comes : HaveSpreadTo b next body parts noted (given ++ before)

  -- together they cover each run of the body
  pub record IsComplete (count : ℕ) : Type 0 where
    pub gone : HasGoneOn count
    pub covered : IsCovered b next body (gone.given ++ before)

  abbrev pub Claims : Covered → Type 0
  Claims (Complete count met states) = IsComplete count
  Claims (Livelock count met states choices) = ⊥
  Claims (Stopped count met states limit) = HasGoneOn count
  Claims (Failed count met states failure choices) = HasGoneOn count × FailsBy b next body failure.kind choices.items

-- No more runs are begun than there may be, and a limit stops a check only where it is reached.
abbrev pub StopsBy : (Duration → Type 0) → Builder → Covered → Type 0
StopsBy answered b (Complete count met states) = count + met ≤ most_runs b
StopsBy answered b (Livelock count met states choices) = ⊥
StopsBy answered b (Stopped count met states Permutations) = count + met ≡ most_runs b
StopsBy answered b (Stopped count met states Lasting) = (count + met < most_runs b) × HasLasted answered b.max_duration
StopsBy answered b (Failed count met states failure choices) = count + met ≤ most_runs b

-- What was found from one list of parts and one table on, up to others: of whatever runs were given before.
abbrev pub Finds : {G V D S : Type 0} → (V → List Choice → D → V → Type 0) → (V → Type 0) → (G → V → G → Type 0) → Builder → Meaning D S → S → (Duration → Type 0) → Parts → Parts → Noted D S → Noted D S → G → G → Covered → Type 0
Finds takes is_new joins b next body answered before after known noted old later covered =
    StopsBy answered b covered × ((given : List (List Choice × _)) → HaveSpreadTo b next body before known given → Claims takes is_new joins b next body given old later after noted covered)

-- ---- worked on

-- no states, of a body that is known never to switch whether the search explores, or of any
abbrev pub unnoted : {D S : Type 0} → Bool → Noted D S
unnoted never = record { states = []; led_by = []; never = never }

module _ {V D S : Type 0} (takes : V → List Choice → D → V → Type 0) (b : Builder) (next : Meaning D S) (body : S) (known : Noted D S) where
  -- how the work on the part by its visitor went, with a table of its own
  abbrev pub CameTo : Job V → PartDone D S V → Result PartCovered CheckError → Type 0
  CameTo job done (Ok worked) = Covers takes job.visitor done.visitor b next body known (unnoted known.never) done.states job.part done.part worked
  CameTo job done (Err e) = Unit {0}

  abbrev pub IsCoveredBy : Job V → PartDone D S V → Type 0
  IsCoveredBy job done = (done.part.base.items ≡ job.part.base.items) × CameTo job done done.worked

  -- each of them
  abbrev pub AreCovered : List (Job V) → List (PartDone D S V) → Type 0
  AreCovered [] [] = Unit {0}
  AreCovered [] (done ∷ later) = ⊥
  AreCovered (job ∷ jobs) [] = ⊥
  AreCovered (job ∷ jobs) (done ∷ later) = IsCoveredBy job done × AreCovered jobs later

-- no more runs were begun than this
abbrev pub IsAtMost : ℕ → Result PartCovered CheckError → Type 0
IsAtMost most (Ok (part.Made count met)) = count + met ≤ most
IsAtMost most (Ok (part.Failed count met failure choices)) = Unit {0}
IsAtMost most (Err e) = Unit {0}

abbrev pub AreAtMost : {D S V : Type 0} → ℕ → List (PartDone D S V) → Type 0
AreAtMost most [] = Unit {0}
AreAtMost most (done ∷ later) = IsAtMost most done.worked × AreAtMost most later

-- ---- given back

-- its runs can be counted besides so many
abbrev pub HasRoom : ℕ → Result PartCovered CheckError → Type 0
HasRoom before (Ok (part.Made count met)) = before + (count + met) < 2 ^ 64
HasRoom before (Ok (part.Failed count met failure choices)) = Unit {0}
HasRoom before (Err e) = Unit {0}

-- the states of another table were added
abbrev pub AddsTable : {D S : Type 0} → Noted D S → Noted D S → Noted D S → Type 0
AddsTable {D} {S} old other new = (never : Bool) (key : List Choice → Key D S) (left : List (List Stored)) → IsTableOf never key left old → IsTableOf never key left other → IsTableOf never key left new

module _ {G V D S : Type 0} (joins : G → V → G → Type 0) (before after : Parts) (known noted : Noted D S) (old later : G) (done : PartDone D S V) (turn next : CoverTurn) where
  -- a part is given back, with its runs, its visitor and its states
  pub record IsGivenBack (count met : ℕ) : Type 0 where
    pub answer : Bool
    pub some : count ≡ 0 → met ≡ 0 → ⊥
    pub joined : joins old done.visitor later
    pub gives : GivesBack before done.part after answer
    pub back : SpreadsBack before done.part after answer
    pub others : KeepsOthers before.list.items done.part.base.items after.list.items
    pub adds : AddsTable known done.states noted
    pub counted : next.runs ≡ turn.runs + count
    pub given_up : next.met ≡ turn.met + met
    pub lost : next.lost ≡ turn.lost

  -- what is done with a part that was worked on
  abbrev pub IsTaken : Result PartCovered CheckError → Type 0
  IsTaken (Ok (part.Made count met)) =
      ((count ≡ 0) × (met ≡ 0) × (after ≡ before) × (noted ≡ known) × (later ≡ old) × (next ≡ turn)) ⊎ IsGivenBack count met
  IsTaken (Ok (part.Failed count met failure choices)) =
      (after ≡ before) × (noted ≡ known) × (later ≡ old) × (next.runs ≡ turn.runs) × (next.met ≡ turn.met)
      × ((next.lost ≡ turn.lost) ⊎ (next.lost ≡ Some (record { part = done.part; failure = failure; choices = choices })))
  IsTaken (Err e) = ⊥

-- the bases of the parts
abbrev pub bases : {D S V : Type 0} → List (PartDone D S V) → List (List Choice)
bases list = map (λ (done : PartDone _ _ _). done.part.base.items) list

module _ {V D S : Type 0} (takes : V → List Choice → D → V → Type 0) (is_new : V → Type 0) (b : Builder) (next : Meaning D S) (body : S) (known : Noted D S) where
  -- a part of the list was worked on, as a copy, by a visitor that was given no run before
  pub record IsOut (list : List Part) (done : PartDone D S V) : Type 0 where
    pub number : ℕ
    pub part : Part
    pub job : Job V
    pub stands : slice_get list number ≡ Some part
    pub copied : IsCopy part job.part
    pub unused : is_new job.visitor
    pub worked : IsCoveredBy takes b next body known job done

  abbrev pub AreOut : List Part → List (PartDone D S V) → Type 0
  AreOut list [] = Unit {0}
  AreOut list (done ∷ later) = IsOut list done × AreOut list later

module _ {G V D S : Type 0} (takes : V → List Choice → D → V → Type 0) (is_new : V → Type 0) (joins : G → V → G → Type 0) (b : Builder) (next : Meaning D S) (body : S) (before : List (List Choice × D)) (old later : G)
    (parts : Parts) (noted : Noted D S) where
  -- how a turn went, after the runs that were given before
  pub record HasTaken (turn : CoverTurn) : Type 0 where
    pub gone : HasGoneOn takes is_new joins b next body before old later parts noted turn.runs
    pub lost : (lost : Lost) → turn.lost ≡ Some lost → FailsBy b next body lost.failure.kind lost.choices.items

-- Where these parts of the list are out, no two with the same base, and the search has reached it by the runs of some body.
abbrev pub TakesBack : {G V D S : Type 0} → (V → List Choice → D → V → Type 0) → (V → Type 0) → (G → V → G → Type 0) → Meaning D S → Parts → Parts → Noted D S → Noted D S → G → G → List (PartDone D S V) → CoverTurn → Type 0
TakesBack takes is_new joins next before after known noted old later list turn =
    (b : Builder) (body : _) (given : List (List Choice × _)) → HaveSpreadTo b next body before known given → AreOut takes is_new b next body known before.list.items list → IsOnce (bases list)
    → HasTaken takes is_new joins b next body given old later after noted turn

abbrev pub TakesTurn : {G V D S : Type 0} → (V → List Choice → D → V → Type 0) → (V → Type 0) → (G → V → G → Type 0) → Builder → Meaning D S → S → Parts → Parts → Noted D S → Noted D S → G → G → CoverTurn → Type 0
TakesTurn takes is_new joins b next body before after known noted old later turn =
    (given : List (List Choice × _)) → HaveSpreadTo b next body before known given → HasTaken takes is_new joins b next body given old later after noted turn
