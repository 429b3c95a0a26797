-- The run that takes given choices and then defaults.
use Rattle.std.specs.Prelude.{ℕ, zero, suc, List, [], ◌∷◌, Result, Ok, Err}
use Rattle.loom_objects.specs.declared.choice.Choice.{Choice}
use Rattle.loom_objects.specs.Tree.Question.{made_of}
use Rattle.loom_objects.specs.Tree.Tree.{Tree, Gives, Fails, Closes, Asks}
use Rattle.loom_views.specs.declared.rt.failure.FailureKind.{FailureKind}
use Rattle.loom_views.specs.declared.rt.failure.FailureKind.TheVariants.{NotDeterministic, TooManyBranches}
use Rattle.loom_engine.specs.Walk.Choices.{among, pick}

module _ {A : Type 0} where
  -- the choice, and then what the run does after it
  abbrev pub before : Choice → List Choice × Result A FailureKind → List Choice × Result A FailureKind
  before choice rest = (choice ∷ rest.0, rest.1)

  -- The run that takes these choices and then defaults: the choices that it made, and its outcome. A choice that is
  -- no option where it comes, or that is left over when the run is over, ends it. The number bounds the nodes to come.
  abbrev pub replayed : ℕ → Tree A → List Choice → List Choice × Result A FailureKind
  replayed room (Gives value) given = ([], Ok value)
  replayed room (Fails failure) given = ([], Err failure)
  replayed room (Closes rest) [] = replayed room rest []
  replayed room (Closes rest) (choice ∷ given) = ([], Err NotDeterministic)
  replayed zero (Asks question branches) given = ([], Err TooManyBranches)
  replayed (suc room) (Asks question branches) [] = before (made_of question).default (replayed room (branches (made_of question).default) [])
  replayed (suc room) (Asks question branches) (choice ∷ given) =
      pick (among choice (made_of question).options) (before choice (replayed room (branches choice) given)) ([], Err NotDeterministic)
