-- What a check saves, and when.
use Rattle.std.specs.Prelude.{ℕ, ◌≡◌, ◌+◌, ◌⊎◌, List, Option, Some, String, string_bytes}
use Rattle.std.specs.declared.alloc.Global.{Global}
use Rattle.serde_json.specs.Written.{compact_text}
use Rattle.loom_engine.specs.Checkpoint.Grammar.{path_data}
use Rattle.loom_engine.specs.Path.Route.{Route}
use Rattle.loom.specs.declared.model.Limit.{Limit}
use Rattle.loom.specs.declared.model.report.Report.{Report}
use Rattle.loom.specs.declared.model.report.Report.TheVariants.{Stopped}
use Rattle.loom.specs.Model.Stores.{Keeps}
use Rattle.loom.specs.Model.StoredText.{IsTextOf}

-- the store may hold this text, which is the compact text of the path's value
pub record IsSavedAs (path : Route) (holds : Option (List ℕ) → Type 0) (text : List ℕ) : Type 0 where
  pub held : holds (Some text)
  pub reads : IsTextOf path.search path.explores text path.nodes
  pub compact : text ≡ compact_text (path_data path.search path.explores path.nodes)

-- the report has the text as which the path was saved
abbrev pub IsStoppedWith : Route → (Option (List ℕ) → Type 0) → ℕ → Limit → Report → Type 0
IsStoppedWith path holds runs limit report = (checkpoint : String Global) × IsSavedAs path holds (string_bytes checkpoint) × (report ≡ Stopped runs limit checkpoint)

-- There was time: what the store may hold stays as it is. Or the path was saved.
abbrev pub IsKept : ℕ → ℕ → Route → (Option (List ℕ) → Type 0) → (Option (List ℕ) → Type 0) → ℕ → Type 0
IsKept interval until path old new left = ((left + 1 ≡ until) × Keeps old new) ⊎ ((left + 1 ≡ interval) × ((text : List ℕ) × IsSavedAs path new text))

-- what the store may hold stays as it is, or the path was saved
abbrev pub IsLeft : Route → (Option (List ℕ) → Type 0) → (Option (List ℕ) → Type 0) → Type 0
IsLeft path old new = Keeps old new ⊎ ((text : List ℕ) × IsSavedAs path new text)
