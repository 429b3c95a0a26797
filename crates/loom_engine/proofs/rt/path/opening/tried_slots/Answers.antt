use Rattle.std.proofs.Common.{◌≡◌, ◌+◌, take, ap, ◌∙◌, arith}
use Rattle.loom_objects.specs.Tree.Stores.{slots}
use Rattle.loom_engine.proofs.Parts.Tried.{loads, slots_tried}
use Rattle.loom_engine.proofs.rt.path.opening.tried_slots.Goals as goal

pub returns : goal.returns
returns c = λ o.
    let all : c.loop-place.place ≡ c.args.load.now.position + 1 = omega (arith, c.loop-place-test.false, c.loop-place.auto.place-end) in
    slots_tried c.args.load.now c.loop-place.list.items c.requires (c.loop-place.invariant ∙ ap (λ k. loads (take k (slots c.args.load.now.readable))) all) o
