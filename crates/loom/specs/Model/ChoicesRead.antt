-- What a text of choices is read as.
use Rattle.std.specs.Prelude.{ℕ, ◌≡◌, Bool, true, cond, nat_lt, List, [], ◌∷◌, Option, Some, None}
use Rattle.std.specs.List.{list_all}
use Rattle.loom_objects.specs.declared.choice.Choice.{Choice}
use Rattle.loom_objects.specs.declared.choice.Choice.TheVariants.{Thread, Load, Spurious}
use Rattle.loom_objects.specs.Choice.{after_word, is_space}
use Rattle.loom_objects.specs.World.{MAX_THREADS}
use Rattle.loom.specs.Model.ChoicesText.{choices_text}

-- a run has threads 0 to 4 at most, and a load slots 0 to 6
abbrev pub may_come : Choice → Bool
may_come (Thread None) = true
may_come (Thread (Some thread)) = nat_lt thread MAX_THREADS
may_come (Load slot) = nat_lt slot 7
may_come (Spurious wakes) = true

abbrev pub before : Option Choice → Option (List Choice) → Option (List Choice)
before None choices = None
before (Some choice) None = None
before (Some choice) (Some choices) = Some (choice ∷ choices)

-- the choices of the words, if each is one
abbrev pub choices_in : List ℕ → Option (List Choice)
choices_in [] = Some []
choices_in (letter ∷ []) = cond (is_space letter) (Some []) None
choices_in (letter ∷ sign ∷ rest) = cond (is_space letter) (choices_in (sign ∷ rest)) (before (after_word letter (sign ∷ rest)) (choices_in rest))

-- what is written is read back
abbrev pub ReadsBackLaw : Type 0
ReadsBackLaw = (choices : List Choice) → list_all may_come choices ≡ true → choices_in (choices_text choices) ≡ Some choices
