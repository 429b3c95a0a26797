use Rattle.std.proofs.Common.{arith, ap, slice_index}
use Rattle.loom.proofs.History.Counting.{added_so, calls_most, counted_more}
use Rattle.loom.proofs.runner.history.History.add.Goals as goal

pub count-requires-clause-small : goal.count-requires-clause-small
count-requires-clause-small g c =
    let most = calls_most c.active-by.result c.self.inside.events.items in
    let is = c.self.invariant.counted c.active-by.result in
    let there = ap (λ xs. slice_index xs c.active-by.result) c.prepare.ensures.counts in
    omega (arith, most, is, there)

pub returns-in-Ok-take_turn-clause-added : goal.returns-in-Ok-take_turn-clause-added
returns-in-Ok-take_turn-clause-added g c =
    rw (← c.self.view_is)
    (added_so _ _ _ _ c.args.op c.in-Ok.kept c.args.label _ c.self.inside.events.items c.prepare.new.history.items c.push_reserved.new.self.items c.active-by.result c.passed-choices_before.result c.in-Ok-take_turn.outcome
    c.active-by.ensures c.passed-choices_before.ensures c.in-Ok.ensures.copy c.in-Ok-take_turn.ensures.happens c.prepare.ensures.history c.push_reserved.ensures.items)

pub invariant_of-self-in-Ok-take_turn : goal.invariant_of-self-in-Ok-take_turn
invariant_of-self-in-Ok-take_turn g c =
    counted_more c.self.inside.counts.items c.prepare.new.counts.items c.count.new.counts.items c.self.inside.events.items c.prepare.new.history.items c.push_reserved.new.self.items _
    c.prepare.ensures.counts c.prepare.ensures.history c.push_reserved.ensures.items c.self.invariant c.count.ensures.length c.count.ensures.counted

pub returns-in-Err-clause-why : goal.returns-in-Err-clause-why
returns-in-Err-clause-why g c = rw (← c.self.view_is, ← c.active-by.ensures, ← c.self.invariant.threads) c.in-Err.ensures.why
