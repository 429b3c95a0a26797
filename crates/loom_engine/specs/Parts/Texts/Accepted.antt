-- Which JSON values and texts are parts and lists of parts, and why another one is refused.
use Rattle.std.specs.Prelude.{◌≡◌, ◌≢◌, ℕ, ◌<◌, ◌≤◌, ◌⊎◌, Bool, true, List, [], ◌∷◌, length, map, codes, Some, None, IsUtf8}
use Rattle.serde_json.specs.Data.{Data}
use Rattle.serde_json.specs.Read.{read}
use Rattle.loom_objects.specs.declared.choice.Choice.{Choice}
use Rattle.loom_objects.specs.declared.choice.Choice.TheVariants.{Thread, Load, Spurious}
use Rattle.loom_engine.specs.Trees.Meeting.{Settings}
use Rattle.loom_engine.specs.Path.Route.{at_rest, settings}
use Rattle.loom_engine.specs.Path.WellFormed.{AreWellFormed}
use Rattle.loom_engine.specs.Checkpoint.Accepted.{IsPathOf, IsRefused, IsMemory as IsMemoryOfPath, OfText, version_of}
use Rattle.loom_engine.specs.Walk.Machine.{Machine}
use Rattle.loom_engine.specs.Parts.Keeping.{choices_of, IsAt}
use Rattle.loom_engine.specs.Parts.Openings.{chosen_to}
use Rattle.loom_engine.specs.Parts.Texts.Grammar.{choices_data, item_shape, item_data, part_shape, part_data, list_shape, parts_data}
use Rattle.loom_engine.specs.Parts.Texts.Reader.{format_of}
use Rattle.loom_engine.specs.declared.rt.path.node.Node.{Node}
use Rattle.loom_engine.specs.declared.rt.parts.Part.{Part}
use Rattle.loom_engine.specs.declared.rt.parts.Parts.{Parts}
use Rattle.loom_engine.specs.declared.rt.parts.error.PartsError.{PartsError}
use Rattle.loom_engine.specs.declared.rt.parts.error.PartsError.TheVariants.{NotJson, WrongFormat, WrongVersion, WrongShape, Path, WrongFloor, BadOption, Memory}

-- A true part of a search with these settings: its path is between two runs and begins with its base. Of a part that is done the
-- nodes along the base are left.
pub record IsTruePart (s : Settings) (explores : Bool) (q : Part) : Type 0 where
  pub rests : q.path ≡ at_rest s explores q.path.nodes
  pub fits : length q.path.nodes ≤ s.max_branches
  pub well_formed : AreWellFormed q.path.nodes
  pub within : length q.base.items ≤ length q.path.nodes
  pub base : q.base.items ≡ chosen_to (length q.base.items) q.path.nodes
  pub done : q.is_done ≡ true → length q.path.nodes ≡ length q.base.items

abbrev pub AreTrueParts : Settings → Bool → List Part → Type 0
AreTrueParts s explores [] = Unit {0}
AreTrueParts s explores (q ∷ list) = IsTruePart s explores q × AreTrueParts s explores list

-- the value is that of this true part, as a list has it
pub record IsItemOf (s : Settings) (explores : Bool) (d : Data) (q : Part) : Type 0 where
  pub value : d ≡ item_data q
  pub true_part : IsTruePart s explores q

-- and as it is written alone
pub record IsPartOf (s : Settings) (explores : Bool) (d : Data) (q : Part) : Type 0 where
  pub value : d ≡ part_data q
  pub true_part : IsTruePart s explores q

-- an option that a run may have: one of five threads, or of seven slots
abbrev pub IsOption : Choice → Type 0
IsOption (Thread None) = Unit {0}
IsOption (Thread (Some thread)) = thread < 5
IsOption (Load slot) = slot < 7
IsOption (Spurious answer) = Unit {0}

abbrev pub AreOptions : List Choice → Type 0
AreOptions [] = Unit {0}
AreOptions (c ∷ list) = IsOption c × AreOptions list

abbrev pub AreLists : List (List Choice) → Type 0
AreLists [] = Unit {0}
AreLists (list ∷ lists) = AreOptions list × AreLists lists

-- the parts are true ones of a search with these settings, and what was handed out are options
pub record AreTrue (s : Settings) (explores : Bool) (p : Parts) : Type 0 where
  pub search : settings p.search ≡ s
  pub exploring : p.search.explores ≡ explores
  pub parts : AreTrueParts s explores p.list.items
  pub options : AreLists (map choices_of p.trunk.items)

-- the value is that of this list of true parts
pub record IsListOf (s : Settings) (explores : Bool) (d : Data) (p : Parts) : Type 0 where
  pub value : d ≡ parts_data p
  pub true_parts : AreTrue s explores p

abbrev pub IsAmong : Data → List Data → Type 0
IsAmong d [] = ⊥
IsAmong d (x ∷ list) = (d ≡ x) ⊎ IsAmong d list

-- Why a part in a list is refused. The reasons are tested in this order.
abbrev pub IsRefusedItem : Settings → Bool → Data → PartsError → Type 0
IsRefusedItem s explores d NotJson = ⊥
IsRefusedItem s explores d WrongFormat = ⊥
IsRefusedItem s explores d (WrongVersion version) = ⊥
IsRefusedItem s explores d WrongShape = (done : Bool) (floor : ℕ) (path : Data) (runs : ℕ) → d ≢ item_shape done floor path runs
IsRefusedItem s explores d (Path e) = (done : Bool) × (floor : ℕ) × (path : Data) × (runs : ℕ) × (d ≡ item_shape done floor path runs) × IsRefused s explores path e
IsRefusedItem s explores d (WrongFloor floor) =
    (done : Bool) × (path : Data) × (runs : ℕ) × (nodes : List Node) × (d ≡ item_shape done floor path runs) × IsPathOf s explores path nodes
    × ((length nodes < floor) ⊎ ((done ≡ true) × (length nodes ≢ floor)))
IsRefusedItem s explores d BadOption = ⊥
IsRefusedItem s explores d (Memory e) = Unit {0}

-- the object says that it is of this format, and of version 2
abbrev pub IsOfFormat : List ℕ → Data → Type 0
IsOfFormat format d = (format_of d ≡ Some format) × (version_of d ≡ Some 2)

-- it says another version, or none
abbrev pub IsOfVersion : List ℕ → Data → ℕ → Type 0
IsOfVersion format d version = (format_of d ≡ Some format) × (version_of d ≡ Some version) × (version ≢ 2)

-- why an object isn't of this format
abbrev pub IsRefusedHeader : List ℕ → Data → PartsError → Type 0
IsRefusedHeader format d NotJson = ⊥
IsRefusedHeader format d WrongFormat = format_of d ≢ Some format
IsRefusedHeader format d (WrongVersion version) = IsOfVersion format d version
IsRefusedHeader format d WrongShape = version_of d ≡ None
IsRefusedHeader format d (Path e) = ⊥
IsRefusedHeader format d (WrongFloor floor) = ⊥
IsRefusedHeader format d BadOption = ⊥
IsRefusedHeader format d (Memory e) = ⊥

-- why a part that is written alone is refused
abbrev pub IsRefusedPart : Settings → Bool → Data → PartsError → Type 0
IsRefusedPart s explores d NotJson = ⊥
IsRefusedPart s explores d WrongFormat = format_of d ≢ Some (codes "part")
IsRefusedPart s explores d (WrongVersion version) = IsOfVersion (codes "part") d version
IsRefusedPart s explores d WrongShape = (part : Data) → d ≡ part_shape (codes "part") part 2 → IsRefusedItem s explores part WrongShape
IsRefusedPart s explores d (Path e) = (part : Data) × (d ≡ part_shape (codes "part") part 2) × IsRefusedItem s explores part (Path e)
IsRefusedPart s explores d (WrongFloor floor) = (part : Data) × (d ≡ part_shape (codes "part") part 2) × IsRefusedItem s explores part (WrongFloor floor)
IsRefusedPart s explores d BadOption = ⊥
IsRefusedPart s explores d (Memory e) = Unit {0}

-- some part of the list is refused so
abbrev pub IsRefusedThere : Settings → Bool → List Data → PartsError → Type 0
IsRefusedThere s explores parts e = (item : Data) × IsAmong item parts × IsRefusedItem s explores item e

-- why a value isn't the settings of this search, which are there as a path without nodes
abbrev pub IsRefusedSearch : Settings → Bool → Data → PartsError → Type 0
IsRefusedSearch s explores d NotJson = ⊥
IsRefusedSearch s explores d WrongFormat = ⊥
IsRefusedSearch s explores d (WrongVersion version) = ⊥
IsRefusedSearch s explores d WrongShape = (nodes : List Node) × IsPathOf s explores d nodes × (nodes ≢ [])
IsRefusedSearch s explores d (Path e) = IsRefused s explores d e
IsRefusedSearch s explores d (WrongFloor floor) = ⊥
IsRefusedSearch s explores d BadOption = ⊥
IsRefusedSearch s explores d (Memory e) = ⊥

-- the value is an object of a list, with these parts, runs, settings and options
abbrev pub HasParts : Data → List Data → ℕ → Data → List Data → Type 0
HasParts d parts runs search trunk = d ≡ list_shape (codes "parts") parts runs search trunk 2

-- why a list of parts is refused
abbrev pub IsRefusedList : Settings → Bool → Data → PartsError → Type 0
IsRefusedList s explores d NotJson = ⊥
IsRefusedList s explores d WrongFormat = format_of d ≢ Some (codes "parts")
IsRefusedList s explores d (WrongVersion version) = IsOfVersion (codes "parts") d version
IsRefusedList s explores d WrongShape =
    (parts : List Data) (runs : ℕ) (search : Data) (trunk : List Data) → HasParts d parts runs search trunk
    → IsRefusedThere s explores parts WrongShape ⊎ IsRefusedSearch s explores search WrongShape
IsRefusedList s explores d (Path e) =
    (parts : List Data) × (runs : ℕ) × (search : Data) × (trunk : List Data) × HasParts d parts runs search trunk
    × (IsRefusedSearch s explores search (Path e) ⊎ IsRefusedThere s explores parts (Path e))
IsRefusedList s explores d (WrongFloor floor) =
    (parts : List Data) × (runs : ℕ) × (search : Data) × (trunk : List Data) × HasParts d parts runs search trunk × IsRefusedThere s explores parts (WrongFloor floor)
IsRefusedList s explores d BadOption =
    (parts : List Data) × (runs : ℕ) × (search : Data) × (trunk : List Data) × HasParts d parts runs search trunk
    × ((options : List (List Choice)) → AreLists options → trunk ≢ map choices_data options)
IsRefusedList s explores d (Memory e) = Unit {0}

abbrev pub IsMemory : PartsError → Type 0
IsMemory NotJson = ⊥
IsMemory WrongFormat = ⊥
IsMemory (WrongVersion version) = ⊥
IsMemory WrongShape = ⊥
IsMemory (Path e) = IsMemoryOfPath e
IsMemory (WrongFloor floor) = ⊥
IsMemory BadOption = ⊥
IsMemory (Memory e) = Unit {0}

-- ---- texts

-- why a text has no value
abbrev pub IsNoText : List ℕ → PartsError → Type 0
IsNoText text NotJson = IsUtf8 text → read text ≡ None
IsNoText text WrongFormat = ⊥
IsNoText text (WrongVersion version) = ⊥
IsNoText text WrongShape = ⊥
IsNoText text (Path e) = ⊥
IsNoText text (WrongFloor floor) = ⊥
IsNoText text BadOption = ⊥
IsNoText text (Memory e) = Unit {0}

-- why a text is refused: it is no JSON, or its value is refused so
abbrev pub IsRefusedText : (Data → PartsError → Type 0) → List ℕ → PartsError → Type 0
IsRefusedText P text NotJson = IsUtf8 text → read text ≡ None
IsRefusedText P text WrongFormat = OfText text (λ d. P d WrongFormat)
IsRefusedText P text (WrongVersion version) = OfText text (λ d. P d (WrongVersion version))
IsRefusedText P text WrongShape = OfText text (λ d. P d WrongShape)
IsRefusedText P text (Path e) = OfText text (λ d. P d (Path e))
IsRefusedText P text (WrongFloor floor) = OfText text (λ d. P d (WrongFloor floor))
IsRefusedText P text BadOption = OfText text (λ d. P d BadOption)
IsRefusedText P text (Memory e) = Unit {0}

-- ---- what is read back

-- the list is where the other one is, in any search
abbrev pub IsAtToo : Parts → Parts → Type 0
IsAtToo p read = (m : Machine) (made : List (List Choice)) → IsAt m made p → IsAt m made read
