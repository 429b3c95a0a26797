use Rattle.std.proofs.Common.{◌≡◌, Some, true, refl, ap, sym, ◌∙◌, length, take, arith}
use Rattle.std.specs.Prelude.{slice_get}
use Rattle.loom_objects.specs.Tree.Question.{made_of}
use Rattle.loom_engine.specs.Trees.Drive.{new_node}
use Rattle.loom_objects.specs.Tree.Stores.{slots, which_store}
use Rattle.loom_engine.proofs.Nodes.Nodes.Slots.{some_slot, slot_place, get_slot, load_given, load_refused}
use Rattle.loom_engine.proofs.rt.path.making.load_at.Goals as goal

pub returns-in_default : goal.returns-in_default
returns-in_default c = record {
  made = load_refused c.args.exploring c.args.readable.now c.args.choice (some_slot c.args.readable.now c.requires.some) (λ j e _. c.in_default.not-Load j e);
  well = tt;
}

pub returns-then-not-is_readable-clause-made : goal.returns-then-not-is_readable-clause-made
returns-then-not-is_readable-clause-made c =
    let readable = c.args.readable.now in
    load_refused c.args.exploring readable c.args.choice (some_slot readable c.requires.some)
    (λ j e h. let place : j ≡ c.in-Load.slot = cc (e, c.in-Load.is) in let met = c.if-not-is_readable.ensures.readable.1 (ap (slice_get readable) (sym place) ∙ h) in cc met)

pub returns-clause-made : goal.returns-clause-made
returns-clause-made c =
    let readable = c.args.readable.now in
    let place : slice_get (slots readable) c.count_slots.result ≡ Some c.in-Load.slot =
    ap (slice_get (slots readable)) c.count_slots.ensures.count ∙ slot_place readable c.in-Load.slot (c.if-not-is_readable.ensures.readable.0 refl) in
    load_given c.args.exploring (slots readable) c.count_slots.result c.in-Load.slot place ∙ ap (λ o. new_node true (made_of (which_store c.args.exploring readable)) (Some o)) (sym c.in-Load.is)

pub returns-clause-well : goal.returns-clause-well
returns-clause-well c =
    let readable = c.args.readable.now in
    omega (arith, c.count_slots.ensures.count, (get_slot (slots readable) (length (slots (take c.in-Load.slot readable))) c.in-Load.slot (slot_place readable c.in-Load.slot (c.if-not-is_readable.ensures.readable.0 refl))).0)
