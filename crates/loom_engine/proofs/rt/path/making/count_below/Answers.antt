use Rattle.std.proofs.Common.{◌≡◌, ◌<◌, Bool, true, false, length, refl, ap, ◌∙◌, arith}
use Rattle.std.specs.Prelude.{cond, nat_lt}
use mir.Val.{bool_byte}
use Rattle.loom_engine.proofs.Path.Nodes.Below.{counts_above, counts_below}
use Rattle.loom_engine.proofs.rt.path.making.count_below.Goals.{then-place-slot, else-place-slot}
use Rattle.loom_engine.proofs.rt.path.making.count_below.Goals as goal

one_is : (b : Bool) → bool_byte b ≡ cond b 1 0
one_is true = refl
one_is false = refl

pub slots-preserved : goal.slots-preserved
slots-preserved c =
    let z = c.slots.invariant in
    let readable = c.args.readable.now in
    let within : c.slots.place < length readable = omega (arith, c.told-readable, c.slots-test.true) in
    elim c.if-place-slot.branch [
      | then-place-slot w ↦
          let made = counts_below readable c.args.slot c.slots.place c.slots.count c.from.result z.counted z.few within w.if-place-slot.true (c.from.ensures ∙ ap bool_byte w.from-is ∙ one_is _) in
          record { counted = made.0; few = made.1 }
      | else-place-slot w ↦
          let not_below : nat_lt c.slots.place c.args.slot ≡ false = grind (arith, w.if-place-slot.false) in
          let made = counts_above readable c.args.slot c.slots.place c.slots.count c.from.result z.counted z.few w.if-place-slot.false (c.from.ensures ∙ ap bool_byte (w.from-is ∙ not_below)) in
          record { counted = made.0; few = made.1 }
    ]
