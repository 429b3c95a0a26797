-- Which nodes a run through a tree meets, and its outcome.
use Rattle.std.specs.Prelude.{ℕ, zero, suc, ◌≡◌, Bool, true, false, List, [], ◌∷◌, map, Option, Some, None, Result, Ok, Err}
use Rattle.loom_objects.specs.declared.choice.Choice.{Choice}
use Rattle.loom_objects.specs.Tree.Question.{Made, made_of}
use Rattle.loom_objects.specs.Tree.Tree.{Tree, Gives, Fails, Closes, Asks}
use Rattle.loom_engine.specs.Walk.Choices.{among, pick}
use Rattle.loom_views.specs.declared.rt.failure.FailureKind.{FailureKind}
use Rattle.loom_views.specs.declared.rt.failure.FailureKind.TheVariants.{TooManyBranches}

module _ {A : Type 0} where
  -- The node that the run meets after these choices, each of which is an option where it comes, or None where the run
  -- is over. The number bounds the nodes to come.
  abbrev pub met : ℕ → Tree A → List Choice → Option Made
  met room (Gives value) c = None
  met room (Fails failure) c = None
  met room (Closes rest) c = None
  met zero (Asks question branch) c = None
  met (suc room) (Asks question branch) [] = Some (made_of question)
  met (suc room) (Asks question branch) (x ∷ c) = pick (among x (made_of question).options) (met room (branch x) c) None

  -- the outcome of the run that meets just as many nodes as there are choices, each an option where it comes
  abbrev pub outcome : ℕ → Tree A → List Choice → Option (Result A FailureKind)
  outcome room (Gives value) [] = Some (Ok value)
  outcome room (Gives value) (x ∷ c) = None
  outcome room (Fails failure) [] = Some (Err failure)
  outcome room (Fails failure) (x ∷ c) = None
  outcome room (Closes rest) c = outcome room rest c
  outcome zero (Asks question branch) [] = Some (Err TooManyBranches)
  outcome (suc room) (Asks question branch) [] = None
  outcome zero (Asks question branch) (x ∷ c) = None
  outcome (suc room) (Asks question branch) (x ∷ c) = pick (among x (made_of question).options) (outcome room (branch x) c) None

  -- the nodes that these choices pass, with the choice at each
  abbrev pub passed : Tree A → List Choice → List (Made × Choice)
  passed (Gives value) c = []
  passed (Fails failure) c = []
  passed (Closes rest) c = []
  passed (Asks question branch) [] = []
  passed (Asks question branch) (x ∷ c) = (made_of question, x) ∷ passed (branch x) c

  -- these choices are those of a run of at most so many nodes, which ends with this value
  abbrev pub IsRun : ℕ → Tree A → List Choice × A → Type 0
  IsRun room tree made = outcome room tree made.0 ≡ Some (Ok made.1)

  abbrev pub AreRuns : ℕ → Tree A → List (List Choice × A) → Type 0
  AreRuns room tree [] = Unit {0}
  AreRuns room tree (made ∷ runs) = IsRun room tree made × AreRuns room tree runs

  -- the choices of each run
  abbrev pub choices_made : List (List Choice × A) → List (List Choice)
  choices_made runs = map (λ made. made.0) runs

abbrev pub is_failure : {A : Type 0} → Option (Result A FailureKind) → Bool
is_failure None = false
is_failure (Some (Ok value)) = false
is_failure (Some (Err failure)) = true
