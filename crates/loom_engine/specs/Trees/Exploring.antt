-- Trees of runs that explore throughout.
use Rattle.std.specs.Prelude.{◌≡◌, true}
use Rattle.loom_objects.specs.declared.choice.Choice.{Choice}
use Rattle.loom_objects.specs.Tree.Question.{Among, made_of}
use Rattle.loom_objects.specs.Tree.Tree.{Tree, Gives, Fails, Closes, Asks}

-- each question that a run meets explores
abbrev pub ExploresTree : {A : Type 0} → Tree A → Type 0
ExploresTree (Gives value) = Unit {0}
ExploresTree (Fails failure) = Unit {0}
ExploresTree (Closes rest) = Unit {0}
ExploresTree (Asks question branches) = ((made_of question).exploring ≡ true) × ((choice : Choice) → Among choice (made_of question).options → ExploresTree (branches choice))
