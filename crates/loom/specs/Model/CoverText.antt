-- The text with which a covering check goes on: that of a path, with a key of its own, `search`, which says `cover`.
use Rattle.std.specs.Prelude.{ℕ, ◌≡◌, ◌⊎◌, Bool, cond, List, [], codes, Option, Some, None, IsUtf8}
use Rattle.std.specs.Cmp.Lexicographic.{slice_cmp}
use Rattle.std.specs.Ordering.{is_eq, nat_cmp}
use Rattle.serde_json.specs.Data.{Data, object, string, Members, no_members, member, put}
use Rattle.serde_json.specs.Find.{get}
use Rattle.serde_json.specs.Read.{read}
use Rattle.loom_engine.specs.Checkpoint.Accepted.{IsMemory, IsPathOf, IsRefused, OfText}
use Rattle.loom_engine.specs.Checkpoint.Grammar.{path_data}
use Rattle.loom_engine.specs.Trees.Meeting.{Settings}
use Rattle.loom_engine.specs.declared.rt.path.node.Node.{Node}
use Rattle.loom_engine.specs.declared.rt.path.checkpoint.error.PathError.{PathError}
use Rattle.loom_engine.specs.declared.rt.path.checkpoint.error.PathError.TheVariants.{NotJson, WrongShape}

-- ---- a key of an object

-- the object with this at the key
abbrev pub with_key : List ℕ → Data → Data → Data
with_key key value (object members) = object (put key value members)
with_key key value other = other

abbrev pub members_without : List ℕ → Members → Members
members_without key no_members = no_members
members_without key (member name value members) = cond (is_eq (slice_cmp nat_cmp key name)) members (member name value (members_without key members))

-- the object without the key
abbrev pub without_key : List ℕ → Data → Data
without_key key (object members) = object (members_without key members)
without_key key other = other

-- ---- values

-- the value of a path of a covering check: {"exploring":b,"nodes":[..],"order":t,"preemption_bound":n,"reduce":b,"search":"cover","version":n}
abbrev pub cover_data : Settings → Bool → List Node → Data
cover_data s explores nodes = with_key (codes "search") (string (codes "cover")) (path_data s explores nodes)

-- the value says that it is of a covering check
abbrev pub SaysCover : Data → Type 0
SaysCover d = get (codes "search") d ≡ Some (string (codes "cover"))

-- it says so, and is that of the path with these nodes besides
pub record IsCoverOf (s : Settings) (explores : Bool) (d : Data) (nodes : List Node) : Type 0 where
  pub says : SaysCover d
  pub path : IsPathOf s explores (without_key (codes "search") d) nodes

-- Why a value is refused: it doesn't say so, which is a wrong shape; or it does, and isn't a path's besides, for this reason.
abbrev pub IsNoCover : Settings → Bool → Data → PathError → Type 0
IsNoCover s explores d why = ((why ≡ WrongShape) × (SaysCover d → ⊥)) ⊎ (SaysCover d × IsRefused s explores (without_key (codes "search") d) why)

-- ---- texts

-- the text is that of a covering check's path with these nodes
abbrev pub IsCoverTextOf : Settings → Bool → List ℕ → List Node → Type 0
IsCoverTextOf s explores text nodes = OfText text (λ d. IsCoverOf s explores d nodes)

-- the text reads as such a path; without a text it has no nodes
abbrev pub CoverReadsAs : Settings → Bool → Option (List ℕ) → List Node → Type 0
CoverReadsAs s explores None path = path ≡ []
CoverReadsAs s explores (Some text) path = IsCoverTextOf s explores text path

-- why a text is refused: memory was, or it is no JSON, or its value is refused
abbrev pub IsNoCoverText : Settings → Bool → List ℕ → PathError → Type 0
IsNoCoverText s explores text why = IsMemory why ⊎ ((why ≡ NotJson) × (IsUtf8 text → read text ≡ None)) ⊎ OfText text (λ d. IsNoCover s explores d why)

-- A plain check refuses the value of a covering check's path, as of a wrong shape, and a covering check that of a plain one's.
abbrev pub ApartLaw : Type 0
ApartLaw = (s t : Settings) (explores explored : Bool) (nodes : List Node) → IsRefused s explores (cover_data t explored nodes) WrongShape × IsNoCover s explores (path_data t explored nodes) WrongShape
