-- Which JSON values and texts are paths, and why another one is refused.
use Rattle.std.specs.Prelude.{◌≡◌, ◌≢◌, ℕ, ◌<◌, ◌≤◌, ◌⊎◌, Bool, List, length, map, codes, Option, Some, None, option_and_then, IsUtf8}
use Rattle.serde_json.specs.Data.{Data}
use Rattle.serde_json.specs.Find.{get, as_number, as_u64}
use Rattle.serde_json.specs.Read.{read}
use Rattle.loom_engine.specs.Trees.Meeting.{Settings}
use Rattle.loom_engine.specs.declared.rt.path.node.Node.{Node}
use Rattle.loom_engine.specs.Path.WellFormed.{AreWellFormed, AreAlike}
use Rattle.loom_engine.specs.declared.rt.path.checkpoint.error.PathError.{PathError}
use Rattle.loom_engine.specs.declared.rt.path.checkpoint.error.PathError.TheVariants.{NotJson, WrongShape, WrongVersion, OtherSettings, TooManyNodes, BadNode, Memory}
use Rattle.loom_engine.specs.declared.rt.path.checkpoint.error.Setting.{Setting}
use Rattle.loom_engine.specs.declared.rt.path.checkpoint.error.Setting.TheVariants.{Order, Reduce, PreemptionBound, Exploring}
use Rattle.loom_engine.specs.Checkpoint.Grammar.{order_rule, node_data, shape_data, path_data}

-- the value is that of the path with these nodes, which are well formed, and no more than there may be
pub record IsPathOf (s : Settings) (explores : Bool) (d : Data) (nodes : List Node) : Type 0 where
  pub value : d ≡ path_data s explores nodes
  pub fits : length nodes ≤ s.max_branches
  pub well_formed : AreWellFormed nodes

-- well-formed nodes that have the same value are the same, but for their notes
abbrev pub ValueLaw : Type 0
ValueLaw = (s : Settings) (explores : Bool) (nodes others : List Node) → AreWellFormed nodes → AreWellFormed others
    → path_data s explores nodes ≡ path_data s explores others → AreAlike nodes others

-- the whole number that an object has as its version
abbrev pub version_of : Data → Option ℕ
version_of d = option_and_then as_u64 (option_and_then as_number (get (codes "version") d))

-- the six keys, with the rule of orders, the search's settings and these nodes
abbrev pub HasNodes : Settings → Bool → Data → List Data → Type 0
HasNodes s explores d nodes = d ≡ shape_data explores nodes order_rule s.bound s.reduce 2

-- the first of the settings that differ: the rule of orders, whether the search is reduced, its bound, whether runs begin to explore
abbrev pub DiffersIn : Settings → Bool → Bool → List ℕ → Option ℕ → Bool → Setting → Type 0
DiffersIn s explores exploring order bound reduce Order = order ≢ order_rule
DiffersIn s explores exploring order bound reduce Reduce = (order ≡ order_rule) × (reduce ≢ s.reduce)
DiffersIn s explores exploring order bound reduce PreemptionBound = (order ≡ order_rule) × (reduce ≡ s.reduce) × (bound ≢ s.bound)
DiffersIn s explores exploring order bound reduce Exploring = (order ≡ order_rule) × (reduce ≡ s.reduce) × (bound ≡ s.bound) × (exploring ≢ explores)

-- Why a value is refused. The reasons are tested in this order, and each implies that no earlier one holds.
abbrev pub IsRefused : Settings → Bool → Data → PathError → Type 0
IsRefused s explores d NotJson = ⊥
IsRefused s explores d WrongShape =
    (version_of d ≡ None)
    ⊎ ((version_of d ≡ Some 2)
    × ((exploring : Bool) (nodes : List Data) (order : List ℕ) (bound : Option ℕ) (reduce : Bool) (version : ℕ) → d ≢ shape_data exploring nodes order bound reduce version))
IsRefused s explores d (WrongVersion version) = (version_of d ≡ Some version) × (version ≢ 2)
IsRefused s explores d (OtherSettings setting) =
    (exploring : Bool) × (nodes : List Data) × (order : List ℕ) × (bound : Option ℕ) × (reduce : Bool) × (d ≡ shape_data exploring nodes order bound reduce 2)
    × DiffersIn s explores exploring order bound reduce setting
IsRefused s explores d (TooManyNodes count) = (nodes : List Data) × HasNodes s explores d nodes × (count ≡ length nodes) × (s.max_branches < count)
IsRefused s explores d BadNode =
    (items : List Data) × HasNodes s explores d items × (length items ≤ s.max_branches) × ((nodes : List Node) → AreWellFormed nodes → items ≢ map node_data nodes)
IsRefused s explores d (Memory e) = Unit {0}

abbrev pub IsMemory : PathError → Type 0
IsMemory NotJson = ⊥
IsMemory WrongShape = ⊥
IsMemory (WrongVersion version) = ⊥
IsMemory (OtherSettings setting) = ⊥
IsMemory (TooManyNodes count) = ⊥
IsMemory BadNode = ⊥
IsMemory (Memory e) = Unit {0}

-- the text is JSON, nested at most 127 deep, of a value of which P holds
abbrev pub OfText : List ℕ → (Data → Type 0) → Type 0
OfText text P = IsUtf8 text × ((d : Data) × (read text ≡ Some d) × P d)

-- why a text is refused: it is no JSON, or its value is refused
abbrev pub IsRefusedText : Settings → Bool → List ℕ → PathError → Type 0
IsRefusedText s explores text NotJson = IsUtf8 text → read text ≡ None
IsRefusedText s explores text WrongShape = OfText text (λ d. IsRefused s explores d WrongShape)
IsRefusedText s explores text (WrongVersion version) = OfText text (λ d. IsRefused s explores d (WrongVersion version))
IsRefusedText s explores text (OtherSettings setting) = OfText text (λ d. IsRefused s explores d (OtherSettings setting))
IsRefusedText s explores text (TooManyNodes count) = OfText text (λ d. IsRefused s explores d (TooManyNodes count))
IsRefusedText s explores text BadNode = OfText text (λ d. IsRefused s explores d BadNode)
IsRefusedText s explores text (Memory e) = Unit {0}
