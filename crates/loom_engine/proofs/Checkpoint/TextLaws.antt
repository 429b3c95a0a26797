-- The value of a path has no float and nests four deep.
use Rattle.std.proofs.Common.{◌≡◌, ℕ, ◌≤◌, Bool, false, List, [], ◌∷◌, map, Option, Some, None, refl, arith}
use Rattle.serde_json.specs.Data.{Data, depth, items_depth}
use Rattle.serde_json.specs.View.{items_of}
use Rattle.serde_json.specs.Written.{has_float, items_have_float}
use Rattle.loom_engine.specs.declared.rt.path.node.Node.{Node}
use Rattle.loom_engine.specs.declared.rt.path.node.Node.TheVariants.{Schedule, Load, Spurious}
use Rattle.loom_objects.specs.Tree.Stores.{slots}
use Rattle.loom_engine.specs.Trees.Meeting.{Settings}
use Rattle.loom_engine.specs.Checkpoint.Grammar.{whole, whole_or_null, status_data, schedule_data, load_data, spurious_data, node_data, shape_data, path_data}

pub items_plain : {A : Type 0} (f : A → Data) (plain : (a : A) → has_float (f a) ≡ false) (xs : List A) → items_have_float (items_of (map f xs)) ≡ false
items_plain f plain [] = refl
items_plain f plain (x ∷ xs) = rw (plain x, items_plain f plain xs) refl

or_null_plain : (o : Option ℕ) → has_float (whole_or_null o) ≡ false
or_null_plain None = refl
or_null_plain (Some n) = refl

node_plain : (n : Node) → has_float (node_data n) ≡ false
unfolding schedule_data load_data spurious_data
node_plain (Schedule n) = rw (or_null_plain n.first, items_plain status_data (λ _. refl) n.statuses) refl
node_plain (Load n) = rw (items_plain whole (λ _. refl) (slots n.readable)) refl
node_plain (Spurious n) = refl

pub path_plain : (s : Settings) (explores : Bool) (nodes : List Node) → has_float (path_data s explores nodes) ≡ false
unfolding path_data shape_data
path_plain s explores nodes = rw (items_plain node_data node_plain nodes, or_null_plain s.bound) refl

pub items_within : {A : Type 0} (f : A → Data) (most : ℕ) (within : (a : A) → depth (f a) ≤ most) (xs : List A) → items_depth (items_of (map f xs)) ≤ most
items_within f most within [] = omega arith
items_within f most within (x ∷ xs) = omega (arith, within x, items_within f most within xs)

or_null_depth : (o : Option ℕ) → depth (whole_or_null o) ≡ 0
or_null_depth None = refl
or_null_depth (Some n) = refl

node_depth : (n : Node) → depth (node_data n) ≤ 2
unfolding schedule_data load_data spurious_data
node_depth (Schedule n) = omega (arith, or_null_depth n.first, items_within status_data 0 (λ _. omega arith) n.statuses)
node_depth (Load n) = omega (arith, items_within whole 0 (λ _. omega arith) (slots n.readable))
node_depth (Spurious n) = omega arith

pub path_flat : (s : Settings) (explores : Bool) (nodes : List Node) → depth (path_data s explores nodes) ≤ 4
unfolding path_data shape_data
path_flat s explores nodes = omega (arith, or_null_depth s.bound, items_within node_data 2 node_depth nodes)

pub path_depth : (s : Settings) (explores : Bool) (nodes : List Node) → depth (path_data s explores nodes) ≤ 127
path_depth s explores nodes = omega (arith, path_flat s explores nodes)
