-- The texts of a covering search's parts: those of parts, with a key of their own, `met`, which says how many runs were given up.
use Rattle.std.specs.Prelude.{ℕ, ◌≡◌, ◌⊎◌, Bool, List, codes, Option, Some, None, option_and_then}
use Rattle.serde_json.specs.Data.{Data}
use Rattle.serde_json.specs.Find.{get, as_number, as_u64}
use Rattle.loom_objects.specs.declared.choice.Choice.{Choice}
use Rattle.loom_engine.specs.Checkpoint.Accepted.{OfText}
use Rattle.loom_engine.specs.Checkpoint.Grammar.{whole}
use Rattle.loom_engine.specs.Parts.Keeping.{HasComeTo, IsAt}
use Rattle.loom_engine.specs.Parts.Texts.Accepted.{IsListOf, IsPartOf, IsRefusedList, IsRefusedPart, IsRefusedText}
use Rattle.loom_engine.specs.Parts.Texts.Grammar.{part_data, parts_data}
use Rattle.loom_engine.specs.Path.Nodes.{stored}
use Rattle.loom_engine.specs.Trees.Meeting.{Settings, whole_search}
use Rattle.loom_engine.specs.Walk.Machine.{Machine}
use Rattle.loom_engine.specs.Walk.Sound.{IsMachine}
use Rattle.loom_engine.specs.declared.rt.parts.Part.{Part}
use Rattle.loom_engine.specs.declared.rt.parts.Parts.{Parts}
use Rattle.loom_engine.specs.declared.rt.parts.error.PartsError.{PartsError}
use Rattle.loom_engine.specs.declared.rt.parts.error.PartsError.TheVariants.{WrongShape, Path}
use Rattle.loom_engine.specs.declared.rt.path.checkpoint.error.PathError.{PathError}
use Rattle.loom_engine.specs.declared.rt.path.node.Node.{Node}
use Rattle.loom.specs.declared.model.builder.Builder.{Builder}
use Rattle.loom.specs.declared.model.error.CheckError.{CheckError}
use Rattle.loom.specs.Model.Refusals.{of_parts}
use Rattle.loom.specs.Model.Settings.{explores}
use Rattle.loom.specs.Model.CoverText.{IsCoverTextOf, IsNoCoverText, with_key, without_key}

-- ---- values

-- the value, which says besides that so many runs were given up
abbrev pub with_met : ℕ → Data → Data
with_met met d = with_key (codes "met") (whole met) d

-- how many the value says
abbrev pub met_of : Data → Option ℕ
met_of d = option_and_then as_u64 (option_and_then as_number (get (codes "met") d))

-- it says so many, and P holds of what it is besides
pub record HasMet (P : Data → Type 0) (met : ℕ) (d : Data) : Type 0 where
  pub says : met_of d ≡ Some met
  pub besides : P (without_key (codes "met") d)

-- Why a value is refused: it doesn't say how many, which is a wrong shape; or it does, and is refused besides, for this reason.
abbrev pub IsNoMet : (Data → PartsError → Type 0) → Data → PartsError → Type 0
IsNoMet P d why = ((why ≡ WrongShape) × (met_of d ≡ None)) ⊎ ((met : ℕ) × (met_of d ≡ Some met) × P (without_key (codes "met") d) why)

-- ---- texts

-- the text is that of this part of such a search, of which so many runs were given up
abbrev pub IsMetPart : Settings → Bool → List ℕ → Part → ℕ → Type 0
IsMetPart s explores text part met = OfText text (HasMet (λ d. IsPartOf s explores d part) met)

-- it is that of this list
abbrev pub IsMetList : Settings → Bool → List ℕ → Parts → ℕ → Type 0
IsMetList s explores text parts met = OfText text (HasMet (λ d. IsListOf s explores d parts) met)

-- the text is that of a covering check's path, and the list stands where the path does; no run is said to be given up
pub record IsMetPath (s : Settings) (explores : Bool) (text : List ℕ) (parts : Parts) (met : ℕ) : Type 0 where
  pub nodes : List Node
  pub path : IsCoverTextOf s explores text nodes
  pub stands : (m : Machine) (runs : List (List Choice)) → IsMachine m → HasComeTo m runs (stored nodes) → IsAt m runs parts
  pub none : met ≡ 0

-- why a text is none of a part
abbrev pub IsNoMetPart : Settings → Bool → List ℕ → PartsError → Type 0
IsNoMetPart s explores text why = IsRefusedText (IsNoMet (IsRefusedPart s explores)) text why

-- why it is none of a list, and none of a path either
abbrev pub IsNoMetList : Settings → Bool → List ℕ → PartsError → Type 0
IsNoMetList s explores text why = IsRefusedText (IsNoMet (IsRefusedList s explores)) text why ⊎ ((e : PathError) × (why ≡ Path e) × IsNoCoverText s explores text e)

-- ---- for a covering check by a builder

abbrev pub IsPartFor : Builder → List ℕ → Part → ℕ → Type 0
IsPartFor b text part met = IsMetPart (whole_search b.max_branches) (explores b) text part met

abbrev pub IsListFor : Builder → List ℕ → Parts → ℕ → Type 0
IsListFor b text parts met = IsMetList (whole_search b.max_branches) (explores b) text parts met

abbrev pub IsPathFor : Builder → List ℕ → Parts → ℕ → Type 0
IsPathFor b text parts met = IsMetPath (whole_search b.max_branches) (explores b) text parts met

-- the text is refused as the error says
abbrev pub IsNoPartFor : Builder → List ℕ → CheckError → Type 0
IsNoPartFor b text e = (why : PartsError) × IsNoMetPart (whole_search b.max_branches) (explores b) text why × (e ≡ of_parts why)

abbrev pub IsNoListFor : Builder → List ℕ → CheckError → Type 0
IsNoListFor b text e = (why : PartsError) × IsNoMetList (whole_search b.max_branches) (explores b) text why × (e ≡ of_parts why)

-- A plain check refuses the values of a covering search's parts, as of a wrong shape, and a covering check those of plain ones.
abbrev pub PartsApartLaw : Type 0
PartsApartLaw = (s : Settings) (explores : Bool) (met : ℕ)
    → ((q : Part) → IsRefusedPart s explores (with_met met (part_data q)) WrongShape × IsNoMet (IsRefusedPart s explores) (part_data q) WrongShape)
    × ((p : Parts) → IsRefusedList s explores (with_met met (parts_data p)) WrongShape × IsNoMet (IsRefusedList s explores) (parts_data p) WrongShape)
