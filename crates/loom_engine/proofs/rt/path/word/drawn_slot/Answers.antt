use Rattle.std.proofs.Common.{◌≡◌, Bool, true, false, refl, ap, sym, ◌∙◌, arith}
use Rattle.std.specs.Prelude.{cond}
use mir.Val.{bool_byte}
use Rattle.loom_engine.specs.Path.Words.{readable_in}
use Rattle.loom_engine.proofs.Path.Nodes.Below.{bit_is, readable_at, sought_more}
use Rattle.loom_engine.proofs.rt.path.word.drawn_slot.Goals as goal

one_is : (b : Bool) → bool_byte b ≡ cond b 1 0
one_is true = refl
one_is false = refl

pub slots-preserved : goal.slots-preserved
slots-preserved c =
    let is = c.number-count.ensures.number ∙ bit_is c.may_read.result ∙ ap (λ (b : Bool). cond b 1 0) (c.may_read.ensures ∙ sym (readable_at c.args.word c.slots.at (omega arith))) in
    sought_more (readable_in c.args.word) c.from-place.result c.slots.at c.slots.count c.slots.slot (omega arith) c.slots.invariant c.number-count.result is c.from-slot.result (c.from-slot.ensures ∙ one_is _)
