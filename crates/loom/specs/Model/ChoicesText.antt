-- The choices of a run as a text.
use Rattle.std.specs.Prelude.{ℕ, List, [], ◌∷◌, ◌++◌, codes}
use Rattle.std.specs.List.{flat_map}
use Rattle.loom_objects.specs.declared.choice.Choice.{Choice}
use Rattle.loom_objects.specs.Choice.{choice_text}

abbrev pub after_space : Choice → List ℕ
after_space choice = codes " " ++ choice_text choice

abbrev pub others_text : List Choice → List ℕ
others_text choices = flat_map after_space choices

-- each after a space but the first
abbrev pub choices_text : List Choice → List ℕ
choices_text [] = []
choices_text (choice ∷ choices) = choice_text choice ++ others_text choices
