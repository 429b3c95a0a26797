use Rattle.std.proofs.Common.{◌≡◌, Some, refl, ap, ◌∙◌, length, take, arith}
use Rattle.std.specs.Prelude.{slice_get}
use Rattle.loom_objects.specs.Tree.Stores.{slots}
use Rattle.loom_engine.proofs.Nodes.Nodes.Slots.{get_slot, load_given, slot_place}
use Rattle.loom_engine.proofs.rt.path.making.load_drawn.Goals as goal

pub returns-clause-made : goal.returns-clause-made
returns-clause-made c =
    let readable = c.args.readable.now in
    let place : slice_get (slots readable) c.count_below.result ≡ Some c.args.drawn =
    ap (slice_get (slots readable)) c.count_below.ensures ∙ slot_place readable c.args.drawn (c.if-not-is_readable.ensures.readable.0 refl) in
    load_given c.args.exploring (slots readable) c.count_below.result c.args.drawn place

pub returns-clause-well : goal.returns-clause-well
returns-clause-well c =
    let readable = c.args.readable.now in
    omega (arith, c.count_below.ensures, (get_slot (slots readable) (length (slots (take c.args.drawn readable))) c.args.drawn (slot_place readable c.args.drawn (c.if-not-is_readable.ensures.readable.0 refl))).0)
