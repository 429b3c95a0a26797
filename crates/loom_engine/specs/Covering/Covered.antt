-- What runs cover that were cut off where they met a state that was noted.
use Rattle.std.specs.Prelude.{◌≡◌, ◌≢◌, Bool, true, List, [], ◌∷◌, ◌++◌, Some, None, Ok, Result, ◌⊎◌}
use Rattle.loom_objects.specs.declared.choice.Choice.{Choice}
use Rattle.loom_objects.specs.Tree.Question.{Made}
use Rattle.loom_engine.specs.Walk.Lists.{Begins}
use Rattle.loom_engine.specs.Walk.Path.{Skip, Stored, choices, node_at, IsAtRest}
use Rattle.loom_engine.specs.Walk.Driven.{IsOneOf, ToBeTried}
use Rattle.loom_views.specs.declared.rt.failure.FailureKind.{FailureKind}
use Rattle.loom_engine.specs.Covering.World.{World, IsCalled, IsLimit}

-- the run with these choices and this value is one of them
abbrev pub IsGiven : {A : Type 0} → List Choice → A → List (List Choice × A) → Type 0
IsGiven c value [] = ⊥
IsGiven c value (run ∷ runs) = ((c ≡ run.0) × (value ≡ run.1)) ⊎ IsGiven c value runs

-- each option of a node that explores is to be tried, or was
abbrev pub SkipsNone : List Stored → Type 0
SkipsNone p = (before : List Choice) (n : Stored) (o : Choice) → node_at p before ≡ Some n → n.made.exploring ≡ true → n.status o ≢ Skip

-- There is a path that a run left, each rests, and each option of one that is to be tried, or was, begins a run.
pub record AreTried (left : List (List Stored)) : Type 0 where
  pub some : (q : List Stored) × IsOneOf q left
  pub rests : (q : List Stored) → IsOneOf q left → (before : List Choice) (n : Stored) → node_at q before ≡ Some n → IsAtRest n
  pub tried : (q : List Stored) → IsOneOf q left → (before : List Choice) (n : Stored) (o : Choice) → node_at q before ≡ Some n → n.made.exploring ≡ true → ToBeTried (n.status o)
      → (x : List Stored) × IsOneOf x left × Begins (before ++ o ∷ []) (choices x)

module _ {A K : Type 0} (w : World A) (key : List Choice → K) (left : List (List Stored)) (runs : List (List Choice × A)) where
  -- how the run that left the path q ended
  pub data IsEnd (q : List Stored) : Type 0 where
    -- it was over, and the visitor was given it
    ended : (value : A) → w.node (choices q) ≡ None → w.outcome (choices q) ≡ Some (Ok value) → IsGiven (choices q) value runs → IsEnd q
    -- it met a state that was noted, at a node of this run or of another, made before or after it
    met : (n : Made) → w.node (choices q) ≡ Some n → (y : List Stored) (b : List Choice) (k : Stored) → IsOneOf y left → node_at y b ≡ Some k → key b ≡ key (choices q) → IsEnd q

  -- The runs of a search that remembers states, by the paths that they left, once nothing is left to be tried.
  pub record Remembers : Type 0 where
    pub driven : AreTried left
    pub tries : (q : List Stored) → IsOneOf q left → SkipsNone q
    pub meets : (q : List Stored) → IsOneOf q left → (before : List Choice) (n : Stored) → node_at q before ≡ Some n → w.node before ≡ Some n.made
    pub ends : (q : List Stored) → IsOneOf q left → IsEnd q

-- Whatever a run of v ends with after called choices, it is a limit, or the result of a run of w that the visitor was given.
abbrev pub Covers : {A : Type 0} → (FailureKind → Bool) → World A → World A → List (List Choice × A) → Type 0
Covers {A} limits w v runs = (c : List Choice) (r : Result A FailureKind) → IsCalled v c → v.outcome c ≡ Some r
    → IsLimit limits r ⊎ ((made : List Choice) × (value : A) × IsGiven made value runs × (w.outcome made ≡ Some (Ok value)) × (r ≡ Ok value))
