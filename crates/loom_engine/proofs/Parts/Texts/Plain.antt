-- The values of parts have no float, and nest seven deep.
use Rattle.std.proofs.Common.{◌≡◌, ◌≤◌, false, [], Some, None, Vec, refl, arith}
use Rattle.std.specs.declared.alloc.Global.{Global}
use Rattle.serde_json.specs.Data.{depth}
use Rattle.serde_json.specs.Written.{has_float}
use Rattle.loom_objects.specs.declared.choice.Choice.{Choice}
use Rattle.loom_objects.specs.declared.choice.Choice.TheVariants.{Thread, Load, Spurious}
use Rattle.loom_engine.specs.Path.Route.{settings}
use Rattle.loom_engine.specs.Parts.Texts.Grammar.{choice_data, key_data, item_shape, item_data, part_shape, part_data, list_shape, parts_data}
use Rattle.loom_engine.specs.declared.rt.parts.Part.{Part}
use Rattle.loom_engine.specs.declared.rt.parts.Parts.{Parts}
use Rattle.loom_engine.proofs.Checkpoint.TextLaws.{items_plain, items_within, path_plain, path_flat}

choice_plain : (c : Choice) → has_float (choice_data c) ≡ false
choice_plain (Thread None) = refl
choice_plain (Thread (Some n)) = refl
choice_plain (Load n) = refl
choice_plain (Spurious b) = refl

key_plain : (k : Vec Choice Global) → has_float (key_data k) ≡ false
key_plain k = items_plain choice_data choice_plain k.items

item_plain : (q : Part) → has_float (item_data q) ≡ false
unfolding item_shape
item_plain q = rw (path_plain q.path.search q.path.explores q.path.nodes) refl

pub part_plain : (q : Part) → has_float (part_data q) ≡ false
unfolding part_shape
part_plain q = rw (item_plain q) refl

pub parts_plain : (p : Parts) → has_float (parts_data p) ≡ false
unfolding list_shape
parts_plain p =
    rw (items_plain item_data item_plain p.list.items, path_plain (settings p.search) p.search.explores [], items_plain key_data key_plain p.trunk.items) refl

choice_depth : (c : Choice) → depth (choice_data c) ≤ 1
choice_depth (Thread None) = omega arith
choice_depth (Thread (Some n)) = omega arith
choice_depth (Load n) = omega arith
choice_depth (Spurious b) = omega arith

key_depth : (k : Vec Choice Global) → depth (key_data k) ≤ 2
key_depth k = omega (arith, items_within choice_data 1 choice_depth k.items)

item_depth : (q : Part) → depth (item_data q) ≤ 5
unfolding item_shape
item_depth q = omega (arith, path_flat q.path.search q.path.explores q.path.nodes)

pub part_depth : (q : Part) → depth (part_data q) ≤ 127
unfolding part_shape
part_depth q = omega (arith, item_depth q)

pub parts_depth : (p : Parts) → depth (parts_data p) ≤ 127
unfolding list_shape
parts_depth p =
    omega (arith, items_within item_data 5 item_depth p.list.items, path_flat (settings p.search) p.search.explores [], items_within key_data 2 key_depth p.trunk.items)
