-- A turn of several workers: what is handed out, what comes back, and what the list of parts is then.
use Rattle.std.specs.Prelude.{ℕ, suc, ◌≡◌, ◌≤◌, ◌<◌, ◌+◌, ◌^◌, ◌⊎◌, Bool, List, [], ◌∷◌, ◌++◌, map, Some, Result, Ok, Err, slice_get}
use Rattle.loom_objects.specs.declared.choice.Choice.{Choice}
use Rattle.loom_objects.specs.Tree.Tree.{Tree}
use Rattle.loom_engine.specs.Runs.Sound.{IsRunTree}
use Rattle.loom_engine.specs.Trees.Outcomes.{choices_made}
use Rattle.loom_engine.specs.Walk.Lists.{IsOnce}
use Rattle.loom_engine.specs.Parts.Keeping.{IsAt, IsCopy, GivesBack, KeepsOthers}
use Rattle.loom_engine.specs.declared.rt.parts.Part.{Part}
use Rattle.loom_engine.specs.declared.rt.parts.Parts.{Parts}
use Rattle.loom.specs.declared.model.builder.Builder.{Builder}
use Rattle.loom.specs.declared.model.error.CheckError.{CheckError}
use Rattle.loom.specs.declared.model.parts.Worked.{Worked}
use Rattle.loom.specs.declared.model.parts.Worked.TheVariants.{Made, Failed}
use Rattle.loom.specs.declared.runner.parallel.round.Done.{Done}
use Rattle.loom.specs.declared.runner.parallel.round.Job.{Job}
use Rattle.loom.specs.declared.runner.parallel.round.Lost.{Lost}
use Rattle.loom.specs.declared.runner.parallel.round.Turn.{Turn}
use Rattle.loom.specs.Model.Fresh.{machine}
use Rattle.loom.specs.Model.Parts.{Works}
use Rattle.loom.specs.Model.Settings.{search_of}
use Rattle.loom.specs.Runner.Parallel.{FailsSo, HasGoneOn}

-- ---- handed out

-- the part of this number, and of those behind it, each with a visitor that was given no run
abbrev pub AreHandedOut : {V : Type 0} → (V → Type 0) → List Part → ℕ → List (Job V) → Type 0
AreHandedOut is_new list number [] = Unit {0}
AreHandedOut is_new list number (job ∷ jobs) = ((part : Part) × (slice_get list number ≡ Some part) × IsCopy part job.part) × is_new job.visitor × AreHandedOut is_new list (suc number) jobs

-- ---- worked on

module _ {V D : Type 0} (takes : V → List Choice → D → V → Type 0) (b : Builder) (tree : Tree D) where
  -- how the work on the part by its visitor went
  abbrev pub CameTo : Job V → Done V → Result Worked CheckError → Type 0
  CameTo job done (Ok worked) = Works takes job.visitor done.visitor b tree job.part done.part worked
  CameTo job done (Err e) = Unit {0}

  abbrev pub IsWorkedOn : Job V → Done V → Type 0
  IsWorkedOn job done = (done.part.base.items ≡ job.part.base.items) × CameTo job done done.worked

  -- each of them
  abbrev pub AreWorkedOn : List (Job V) → List (Done V) → Type 0
  AreWorkedOn [] [] = Unit {0}
  AreWorkedOn [] (done ∷ later) = ⊥
  AreWorkedOn (job ∷ jobs) [] = ⊥
  AreWorkedOn (job ∷ jobs) (done ∷ later) = IsWorkedOn job done × AreWorkedOn jobs later

  -- or no run of it was made, though some were left
  abbrev pub MayBeWorkedOn : Job V → Done V → Type 0
  MayBeWorkedOn job done = (done.part.base.items ≡ job.part.base.items) × ((done.worked ≡ Ok (Made 0)) ⊎ CameTo job done done.worked)

-- none made more runs than this
abbrev pub IsAtMost : ℕ → Result Worked CheckError → Type 0
IsAtMost most (Ok (Made count)) = count ≤ most
IsAtMost most (Ok (Failed count failure choices)) = Unit {0}
IsAtMost most (Err e) = Unit {0}

abbrev pub AreAtMost : {V : Type 0} → ℕ → List (Done V) → Type 0
AreAtMost most [] = Unit {0}
AreAtMost most (done ∷ later) = IsAtMost most done.worked × AreAtMost most later

-- ---- given back

-- its runs can be counted besides so many
abbrev pub HasRoom : ℕ → Result Worked CheckError → Type 0
HasRoom before (Ok (Made count)) = before + count < 2 ^ 64
HasRoom before (Ok (Failed count failure choices)) = Unit {0}
HasRoom before (Err e) = Unit {0}

module _ {G V : Type 0} (joins : G → V → G → Type 0) (before after : Parts) (old later : G) (done : Done V) (turn next : Turn) where
  -- a part is given back, with its runs and its visitor
  pub record IsGivenBack (count : ℕ) : Type 0 where
    pub answer : Bool
    pub some : count ≡ 0 → ⊥
    pub joined : joins old done.visitor later
    pub back : GivesBack before done.part after answer
    pub others : KeepsOthers before.list.items done.part.base.items after.list.items
    pub counted : next.runs ≡ turn.runs + count
    pub lost : next.lost ≡ turn.lost

  -- what is done with a part that was worked on
  abbrev pub IsTaken : Result Worked CheckError → Type 0
  IsTaken (Ok (Made count)) = ((count ≡ 0) × (after ≡ before) × (later ≡ old) × (next ≡ turn)) ⊎ IsGivenBack count
  IsTaken (Ok (Failed count failure choices)) =
      (after ≡ before) × (later ≡ old) × (next.runs ≡ turn.runs) × ((next.lost ≡ turn.lost) ⊎ (next.lost ≡ Some (record { part = done.part; failure = failure; choices = choices })))
  IsTaken (Err e) = ⊥

-- the bases of the parts
abbrev pub bases : {V : Type 0} → List (Done V) → List (List Choice)
bases list = map (λ (done : Done _). done.part.base.items) list

module _ {V D : Type 0} (takes : V → List Choice → D → V → Type 0) (is_new : V → Type 0) (b : Builder) (tree : Tree D) where
  -- a part of the list was worked on, as a copy, by a visitor that was given no run before, if a run of it was made
  pub record IsOut (list : List Part) (done : Done V) : Type 0 where
    pub number : ℕ
    pub part : Part
    pub job : Job V
    pub stands : slice_get list number ≡ Some part
    pub copied : IsCopy part job.part
    pub unused : is_new job.visitor
    pub worked : MayBeWorkedOn takes b tree job done

  abbrev pub AreOut : List Part → List (Done V) → Type 0
  AreOut list [] = Unit {0}
  AreOut list (done ∷ later) = IsOut list done × AreOut list later

module _ {G V D : Type 0} (takes : V → List Choice → D → V → Type 0) (is_new : V → Type 0) (joins : G → V → G → Type 0) (b : Builder) (tree : Tree D) (made : List (List Choice)) (old later : G)
    (parts : Parts) where
  -- how a turn went, after the runs that had been made
  pub record HasTaken (turn : Turn) : Type 0 where
    pub gone : HasGoneOn takes is_new joins b tree made old later parts turn.runs
    pub lost : (lost : Lost) → turn.lost ≡ Some lost → FailsSo b tree (choices_made gone.runs ++ made) lost.failure.kind lost.choices.items

-- Where these parts of the list are out, no two with the same base, and the search has reached it by the runs of some body.
abbrev pub TakesBack : {G V D : Type 0} → (V → List Choice → D → V → Type 0) → (V → Type 0) → (G → V → G → Type 0) → Parts → Parts → G → G → List (Done V) → Turn → Type 0
TakesBack takes is_new joins before after old later list turn =
    (b : Builder) (tree : Tree _) (made : List (List Choice)) → IsRunTree tree → IsAt (machine (search_of b) tree) made before → AreOut takes is_new b tree before.list.items list → IsOnce (bases list)
    → HasTaken takes is_new joins b tree made old later after turn

abbrev pub TakesTurn : {G V D : Type 0} → (V → List Choice → D → V → Type 0) → (V → Type 0) → (G → V → G → Type 0) → Builder → Tree D → Parts → Parts → G → G → Turn → Type 0
TakesTurn takes is_new joins b tree before after old later turn =
    (made : List (List Choice)) → IsAt (machine (search_of b) tree) made before → HasTaken takes is_new joins b tree made old later after turn
