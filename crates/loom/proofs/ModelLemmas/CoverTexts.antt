-- The text of a covering check's path, and that a plain path's is none.
use Rattle.std.proofs.Common.{◌≡◌, ◌≤◌, ℕ, Bool, true, false, cond, codes, List, [], ◌∷◌, Some, String, Global, string_bytes, refl, ap, sym, ◌∙◌, subst, inl, inr}
use Rattle.std.specs.Cmp.Lexicographic.{slice_cmp}
use Rattle.std.specs.BTreeMap.{is_at}
use Rattle.std.specs.Map.{remove_entry}
use Rattle.std.specs.Ordering.{nat_cmp, is_eq}
use Rattle.serde_json.specs.Data.{Data, depth, member}
use Rattle.serde_json.specs.View.{view, members_view}
use Rattle.serde_json.specs.Written.{has_float}
use Rattle.serde_json.specs.declared.value.Value.{Value}
use Rattle.loom_engine.specs.Checkpoint.Accepted.{IsPathOf}
use Rattle.loom_engine.specs.Checkpoint.Grammar.{path_data, shape_data}
use Rattle.loom_engine.specs.Path.Route.{stored}
use Rattle.loom_engine.specs.Trees.Meeting.{Settings}
use Rattle.loom_engine.specs.declared.rt.path.node.Node.{Node}
use Rattle.loom_engine.proofs.Checkpoint.ShapeLaws.{same_nodes}
use Rattle.loom_engine.proofs.Checkpoint.TextLaws.{path_depth, path_plain}
use Rattle.loom_engine.proofs.Parts.Texts.Items.{alike_stored}
use Rattle.loom.specs.Model.CoverText.{ApartLaw, IsCoverTextOf, SaysCover, cover_data, members_without, without_key}

-- ---- a key

one_out : (b : Bool) (e : String Global × Value) (es more : List (String Global × Value)) (key : List ℕ) → members_view more ≡ members_without key (members_view es)
    → members_view (cond b es (e ∷ more)) ≡ cond b (members_view es) (member (string_bytes e.0) (view e.1) (members_without key (members_view es)))
one_out true e es more key same = refl
one_out false e es more key same = ap (member (string_bytes e.0) (view e.1)) same

-- an entry that is taken out
pub entry_out : (key : List ℕ) (es : List (String Global × Value)) → members_view (remove_entry (is_at (λ k. slice_cmp nat_cmp key (string_bytes k))) es) ≡ members_without key (members_view es)
entry_out key [] = refl
entry_out key (e ∷ es) = one_out (is_eq (slice_cmp nat_cmp key (string_bytes e.0))) e es _ key (entry_out key es)

-- ---- the value that is written

module _ (s : Settings) (explores : Bool) (nodes : List Node) where
  pub says : SaysCover (cover_data s explores nodes)
  unfolding path_data shape_data
  says = refl

  pub besides : without_key (codes "search") (cover_data s explores nodes) ≡ path_data s explores nodes
  unfolding path_data shape_data
  besides = refl

  pub cover_plain : has_float (cover_data s explores nodes) ≡ false
  unfolding path_data shape_data
  cover_plain = path_plain s explores nodes

  pub cover_depth : depth (cover_data s explores nodes) ≤ 127
  unfolding path_data shape_data
  cover_depth = path_depth s explores nodes

-- ---- texts

-- a text has no two paths that a walk tells apart
pub same_stored : (s : Settings) (explores : Bool) (text : List ℕ) (nodes others : List Node) → IsCoverTextOf s explores text nodes → IsCoverTextOf s explores text others → stored nodes ≡ stored others
same_stored s explores text nodes others one other =
    let d : one.1.0 ≡ other.1.0 = some_same one.1.0 other.1.0 (sym one.1.1 ∙ other.1.1) in
    alike_stored nodes others
    (same_nodes s explores (without_key (codes "search") other.1.0) nodes others (subst (λ (d : Data). IsPathOf s explores (without_key (codes "search") d) nodes) d one.1.2.path) other.1.2.path)
  where
    some_same : (a b : Data) → Some a ≡ Some b → a ≡ b
    some_same a b e = cc

pub apart_law : ApartLaw
unfolding path_data shape_data
apart_law s t explores explored nodes = (inr (refl, λ exploring ds order bound reduce version e. cc e), inl (refl, λ says. cc says))
