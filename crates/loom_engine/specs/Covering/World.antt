-- What runs do, by the choices that they have made.
use Rattle.std.specs.Prelude.{suc, ◌≡◌, Bool, true, false, List, ◌∷◌, ◌++◌, length, Option, Some, None, Result, Ok, Err}
use Rattle.loom_objects.specs.declared.choice.Choice.{Choice}
use Rattle.loom_objects.specs.Tree.Question.{Made, Among}
use Rattle.loom_objects.specs.Tree.Tree.{Tree}
use Rattle.loom_engine.specs.Trees.Outcomes.{met, outcome}
use Rattle.loom_views.specs.declared.rt.failure.FailureKind.{FailureKind}

-- node: what a run meets after these choices, or None where it is over. outcome: what it ends with, if it is over then.
pub record World (A : Type 0) : Type 0 where
  pub node : List Choice → Option Made
  pub outcome : List Choice → Option (Result A FailureKind)

-- what the runs of a tree do, however many nodes they meet
abbrev pub world_of : {A : Type 0} → Tree A → World A
world_of tree = record { node = λ c. met (suc (length c)) tree c; outcome = λ c. outcome (suc (length c)) tree c }

module _ {A : Type 0} (w : World A) where
  -- each choice is an option where it comes, and the default where the run doesn't explore
  abbrev pub IsCalled : List Choice → Type 0
  IsCalled c = (before : List Choice) (o : Choice) (after : List Choice) → c ≡ before ++ o ∷ after
      → (n : Made) × (w.node before ≡ Some n) × Among o n.options × (n.exploring ≡ false → o ≡ n.default)

  -- where a run has an outcome it is over
  abbrev pub Ends : Type 0
  Ends = (c : List Choice) (r : Result A FailureKind) → w.outcome c ≡ Some r → w.node c ≡ None

  -- after these choices the run has failed by a limit, of which these are the kinds
  abbrev pub IsStopped : (FailureKind → Bool) → List Choice → Type 0
  IsStopped limits c = (kind : FailureKind) × (w.outcome c ≡ Some (Err kind)) × (limits kind ≡ true)

-- it failed by a limit
abbrev pub IsLimit : {A : Type 0} → (FailureKind → Bool) → Result A FailureKind → Type 0
IsLimit limits (Ok value) = ⊥
IsLimit limits (Err kind) = limits kind ≡ true
