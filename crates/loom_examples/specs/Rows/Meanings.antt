-- What rows mean, as lists and numbers: without the places in memory of their names, steps and labels.
use Rattle.std.specs.Prelude.{ℕ, List, map}
use Rattle.loom_examples.specs.declared.rows.Checked.{Checked}
use Rattle.loom_examples.specs.declared.rows.Checked.TheVariants.{Script, Updater}
use Rattle.loom_examples.specs.declared.rows.Row.{Row}
use Rattle.loom_examples.specs.declared.rows.settings.Settings.{Settings}
use Rattle.loom_examples.specs.Scripts.Written.{Written, written}

-- a script of these steps, or the thread that updates its atomic, with these two numbers
pub data Meant : Type 0 where
  Steps : List Written → Meant
  Updates : ℕ → ℕ → Meant

abbrev pub meant : Checked → Meant
meant (Script steps) = Steps (map written steps.now)
meant (Updater one other) = Updates one other

-- a name, what it means, and how this is checked
pub record Named : Type 0 where
  pub name : List ℕ
  pub means : Meant
  pub settings : Settings

abbrev pub named : Row → Named
named row = record { name = row.name.now; means = meant row.checked; settings = row.settings }
