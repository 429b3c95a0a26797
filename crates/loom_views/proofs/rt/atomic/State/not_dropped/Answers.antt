use Rattle.std.proofs.Common.{◌≡◌, sym, ◌∙◌, ap, min, not, rules, arith, Err}
use Rattle.std.proofs.lemmas.List.{length-set}
use Rattle.std.specs.List.{list_any}
use Rattle.loom_views.specs.Atomic.Slots.{slots, has_equal_order_at}
use Rattle.loom_views.specs.Atomic.Ring.{drops_slot, is_same_slot}
use Rattle.loom_views.proofs.Atomic.Choices.{readable-is, fails-is}
use Rattle.loom_views.proofs.Atomic.Loops.{any_upto-hit, any_upto-none}
use Rattle.loom_views.proofs.Atomic.SlotSets.{set-is, found-more, rest-less, none-more}
use Rattle.loom_views.proofs.rt.atomic.State.not_dropped.Goals as goal

pub returns-in_err-is_dropped : goal.returns-in_err-is_dropped
returns-in_err-is_dropped c = λ s z.
    let same : c.from_residual.result ≡ Err c.in_err-is_dropped.field-0.0 = search rules in
    rw (same, sym (fails-is c.args.thread s c.args.views.now c.args.self.now c.args.reader c.requires z)) (
      c.in_err-is_dropped.ensures.0,
      any_upto-hit (has_equal_order_at (is_same_slot c.args.self.now) (drops_slot c.args.self.now c.args.thread c.args.views.now c.args.reader) c.args.self.now.count) (min c.args.self.now.count 7) c.loop-i.i (omega arith) c.in_err-is_dropped.ensures.1,
    )

pub returns : goal.returns
returns c = λ s z.
    rw (sym (readable-is c.args.thread s c.args.views.now c.args.self.now c.args.reader c.requires z), sym (fails-is c.args.thread s c.args.views.now c.args.self.now c.args.reader c.requires z)) (
      set-is c.loop-i.set (λ i. not (list_any (drops_slot c.args.self.now c.args.thread c.args.views.now c.args.reader i) (slots c.args.self.now.count))) (min c.args.self.now.count 7) (omega arith) c.loop-i.invariant.seven (λ i l. c.loop-i.invariant.found i (omega arith)) (λ i l. c.loop-i.invariant.rest i (omega arith)),
      any_upto-none (has_equal_order_at (is_same_slot c.args.self.now) (drops_slot c.args.self.now c.args.thread c.args.views.now c.args.reader) c.args.self.now.count) (min c.args.self.now.count 7) (λ k l. c.loop-i.invariant.apart k (omega arith)),
    )

pub loop-i-preserved : goal.loop-i-preserved
loop-i-preserved c = record {
  seven = length-set c.loop-i.set c.loop-i.i (not c.in_ok-is_dropped.is_dropped) ∙ c.loop-i.invariant.seven;
  found = found-more c.loop-i.set (λ k. not (list_any (drops_slot c.args.self.now c.args.thread c.args.views.now c.args.reader k) (slots c.args.self.now.count))) c.loop-i.i (not c.in_ok-is_dropped.is_dropped) (omega (arith, c.loop-i.invariant.seven)) (ap not c.in_ok-is_dropped.ensures.0) c.loop-i.invariant.found;
  rest = rest-less c.loop-i.set c.loop-i.i (not c.in_ok-is_dropped.is_dropped) c.loop-i.invariant.rest;
  apart = none-more (has_equal_order_at (is_same_slot c.args.self.now) (drops_slot c.args.self.now c.args.thread c.args.views.now c.args.reader) c.args.self.now.count) c.loop-i.i c.in_ok-is_dropped.ensures.1 c.loop-i.invariant.apart;
}
