-- What holds of the trees that are a body's runs.
use Rattle.std.specs.Prelude.{◌≡◌, ◌≢◌, None}
use Rattle.loom_views.specs.declared.rt.failure.FailureKind.{FailureKind}
use Rattle.loom_views.specs.declared.rt.failure.FailureKind.TheVariants.{NotDeterministic}
use Rattle.loom_objects.specs.declared.choice.Choice.{Choice}
use Rattle.loom_objects.specs.declared.choice.Choice.TheVariants.{Thread}
use Rattle.loom_objects.specs.Tree.Question.{Among, made_of}
use Rattle.loom_objects.specs.Tree.Sound.{IsSound}
use Rattle.loom_objects.specs.Tree.Tree.{Tree, Gives, Fails, Closes, Asks}

-- it asks nothing
abbrev pub IsQuiet : {A : Type 0} → Tree A → Type 0
IsQuiet (Gives value) = Unit {0}
IsQuiet (Fails failure) = Unit {0}
IsQuiet (Closes rest) = IsQuiet rest
IsQuiet (Asks question branch) = ⊥

-- each question that a run meets is sound, and once the run is over it asks nothing
abbrev pub IsSoundTree : {A : Type 0} → Tree A → Type 0
IsSoundTree (Gives value) = Unit {0}
IsSoundTree (Fails failure) = Unit {0}
IsSoundTree (Closes rest) = IsQuiet rest
IsSoundTree (Asks question branch) = IsSound question × ((choice : Choice) → Among choice (made_of question).options → IsSoundTree (branch choice))

-- a run gives a value only once it is over
abbrev pub IsClosing : {A : Type 0} → Tree A → Type 0
IsClosing (Gives value) = ⊥
IsClosing (Fails failure) = Unit {0}
IsClosing (Closes rest) = Unit {0}
IsClosing (Asks question branches) = (choice : Choice) → IsClosing (branches choice)

-- no run fails because a path doesn't meet it
abbrev pub IsFair : {A : Type 0} → Tree A → Type 0
IsFair (Gives value) = Unit {0}
IsFair (Fails kind) = kind ≢ NotDeterministic
IsFair (Closes rest) = IsFair rest
IsFair (Asks question branches) = (choice : Choice) → Among choice (made_of question).options → IsFair (branches choice)

-- no run fails so, by choices that are options
abbrev pub NeverFails : {A : Type 0} → FailureKind → Tree A → Type 0
NeverFails kind (Gives value) = Unit {0}
NeverFails kind (Fails failure) = failure ≢ kind
NeverFails kind (Closes rest) = NeverFails kind rest
NeverFails kind (Asks question branches) = (choice : Choice) → Among choice (made_of question).options → NeverFails kind (branches choice)

-- after a schedule without a default thread, which has no other option, it asks nothing
abbrev pub EndsUnchosen : {A : Type 0} → Tree A → Type 0
EndsUnchosen (Gives value) = Unit {0}
EndsUnchosen (Fails failure) = Unit {0}
EndsUnchosen (Closes rest) = Unit {0}
EndsUnchosen (Asks question branches) = ((made_of question).default ≡ Thread None → IsQuiet (branches (Thread None)))
    × ((choice : Choice) → Among choice (made_of question).options → EndsUnchosen (branches choice))
