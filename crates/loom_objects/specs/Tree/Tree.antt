-- What a run may do, as a tree: where it has a choice, a branch for each option.
use Rattle.std.specs.Prelude.{Bool, true, false, Option, Some, None, Result, Ok, Err, ⊤}
use Rattle.loom_views.specs.declared.rt.failure.FailureKind.{FailureKind}
use Rattle.loom_objects.specs.declared.choice.Choice.{Choice}
use Rattle.loom_objects.specs.Tree.Question.{Question}

infixr 5 ◌>>=◌
pub data Tree (A : Type 0) : Type 0 where
  -- it gives this
  Gives : A → Tree A
  Fails : FailureKind → Tree A
  -- here the run is over: nothing of a path may be left
  Closes : Tree A → Tree A
  -- it goes on by a choice
  Asks : Question → (Choice → Tree A) → Tree A

-- the one tree, and from what it gives the other
abbrev pub ◌>>=◌ : {A B : Type 0} → Tree A → (A → Tree B) → Tree B
◌>>=◌ (Gives a) next = next a
◌>>=◌ (Fails kind) next = Fails kind
◌>>=◌ (Closes rest) next = Closes (rest >>= next)
◌>>=◌ (Asks question branch) next = Asks question (λ choice. branch choice >>= next)

-- it goes on only where the test passes
abbrev pub check : Bool → FailureKind → Tree ⊤
check true kind = Gives tt
check false kind = Fails kind

-- it goes on with what is there
abbrev pub found : {A : Type 0} → Option A → FailureKind → Tree A
found (Some a) kind = Gives a
found None kind = Fails kind

-- a rule without a choice is a leaf
abbrev pub came : {A : Type 0} → Result A FailureKind → Tree A
came (Ok a) = Gives a
came (Err kind) = Fails kind
