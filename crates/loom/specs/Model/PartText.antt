-- The texts of a check's parts, and of lists of them.
use Rattle.std.specs.Prelude.{ℕ, ◌≡◌, ◌≢◌, ◌⊎◌, List}
use Rattle.loom_objects.specs.declared.choice.Choice.{Choice}
use Rattle.loom_engine.specs.Checkpoint.Accepted.{OfText}
use Rattle.loom_engine.specs.Checkpoint.Accepted.{IsRefusedText as IsRefusedPath}
use Rattle.loom_engine.specs.Parts.Keeping.{HasComeTo, IsAt}
use Rattle.loom_engine.specs.Parts.Texts.Accepted.{IsListOf, IsPartOf, IsRefusedList, IsRefusedPart, IsRefusedText}
use Rattle.loom_engine.specs.Path.Nodes.{stored}
use Rattle.loom_engine.specs.Walk.Machine.{Machine}
use Rattle.loom_engine.specs.Walk.Sound.{IsMachine}
use Rattle.loom_engine.specs.declared.rt.parts.Part.{Part}
use Rattle.loom_engine.specs.declared.rt.parts.Parts.{Parts}
use Rattle.loom_engine.specs.declared.rt.parts.error.PartsError.{PartsError}
use Rattle.loom_engine.specs.declared.rt.parts.error.PartsError.TheVariants.{WrongFormat}
use Rattle.loom_engine.specs.declared.rt.path.checkpoint.error.PathError.{PathError}
use Rattle.loom_engine.specs.declared.rt.path.node.Node.{Node}
use Rattle.loom.specs.declared.model.builder.Builder.{Builder}
use Rattle.loom.specs.declared.model.error.CheckError.{CheckError}
use Rattle.loom.specs.Model.Refusals.{of_parts, of_path}
use Rattle.loom.specs.Model.Settings.{explores, search_of}
use Rattle.loom.specs.Model.StoredText.{IsTextOf}

-- the text is that of this part of a check by the builder
abbrev pub IsPartText : Builder → List ℕ → Part → Type 0
IsPartText b text part = OfText text (λ d. IsPartOf (search_of b) (explores b) d part)

-- it is that of this list
abbrev pub IsListText : Builder → List ℕ → Parts → Type 0
IsListText b text parts = OfText text (λ d. IsListOf (search_of b) (explores b) d parts)

-- the text is that of a check's path, and the list stands where the path does
pub record IsPathText (b : Builder) (text : List ℕ) (parts : Parts) : Type 0 where
  pub nodes : List Node
  pub path : IsTextOf (search_of b) (explores b) text nodes
  pub stands : (m : Machine) (runs : List (List Choice)) → IsMachine m → HasComeTo m runs (stored nodes) → IsAt m runs parts

-- why the text is none of a part
abbrev pub IsNoPartText : Builder → List ℕ → CheckError → Type 0
IsNoPartText b text e = (why : PartsError) × IsRefusedText (IsRefusedPart (search_of b) (explores b)) text why × (e ≡ of_parts why)

-- Why it is none of a list. A text that isn't of a list's format is none of a path either.
abbrev pub IsNoListText : Builder → List ℕ → CheckError → Type 0
IsNoListText b text e =
    ((why : PartsError) × (why ≢ WrongFormat) × IsRefusedText (IsRefusedList (search_of b) (explores b)) text why × (e ≡ of_parts why))
    ⊎ (IsRefusedText (IsRefusedList (search_of b) (explores b)) text WrongFormat × ((why : PathError) × IsRefusedPath (search_of b) (explores b) text why × (e ≡ of_path why)))
