use Rattle.std.proofs.Common.{◌≡◌, min, rules, arith, sym, ◌∙◌, Err}
use Rattle.loom_views.specs.Atomic.Slots.{has_order_of}
use Rattle.loom_views.specs.Atomic.Ring.{drops_slot, is_same_slot}
use Rattle.loom_views.proofs.Atomic.Loops.{any_upto-hit, any_upto-none}
use Rattle.loom_views.proofs.Atomic.SlotSets.{met-equal, met-dropping}
use Rattle.loom_views.proofs.rt.atomic.State.is_dropped.Goals as goal

pub returns-in_err-drops : goal.returns-in_err-drops
returns-in_err-drops c =
    let same : c.from_residual.result ≡ Err c.in_err-drops.field-0.0 = search rules in
    rw same (c.in_err-drops.ensures.0, met-equal (is_same_slot c.args.self.now) (drops_slot c.args.self.now c.args.thread c.args.views.now c.args.reader) c.args.self.now.count c.args.i c.loop-j.j (omega arith) c.in_err-drops.ensures.1 c.loop-j.invariant.stays)

pub returns-then-branch : goal.returns-then-branch
returns-then-branch c =
    let hit = sym c.in_ok-drops.ensures.0 ∙ c.if-branch.true in (
      sym (any_upto-hit (drops_slot c.args.self.now c.args.thread c.args.views.now c.args.reader c.args.i) (min c.args.self.now.count 7) c.loop-j.j (omega arith) hit),
      met-dropping (is_same_slot c.args.self.now) (drops_slot c.args.self.now c.args.thread c.args.views.now c.args.reader) c.args.self.now.count c.args.i c.loop-j.j hit c.in_ok-drops.ensures.1 c.loop-j.invariant.apart,
    )

pub returns : goal.returns
returns c = (
  sym (any_upto-none (drops_slot c.args.self.now c.args.thread c.args.views.now c.args.reader c.args.i) (min c.args.self.now.count 7) (λ k l. c.loop-j.invariant.stays k (omega arith))),
  any_upto-none (has_order_of (is_same_slot c.args.self.now) (drops_slot c.args.self.now c.args.thread c.args.views.now c.args.reader) c.args.i) (min c.args.self.now.count 7) (λ k l. c.loop-j.invariant.apart k (omega arith)),
)
