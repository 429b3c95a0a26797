use Rattle.std.proofs.Common.{refl, rules}
use Rattle.loom.proofs.Turns.Telling.{none_left, wrong_entry, right_entry, other_event, at_end}
use Rattle.loom.proofs.runner.history.shares.is_part.Goals as goal

pub returns-in_default-split_first : goal.returns-in_default-split_first
returns-in_default-split_first g c =
    none_left c.args.thread c.loop-first.rest.now c.in-Some.tail.now c.loop-first.left.now c.in-Some.first.now (search rules) (search rules) (search rules) c.loop-first.invariant

pub returns-then-not-is_entry : goal.returns-then-not-is_entry
returns-then-not-is_entry g c =
    wrong_entry c.args.thread c.loop-first.rest.now c.in-Some.tail.now c.loop-first.left.now c.in-Some-split_first.others.now c.in-Some.first.now c.in-Some-split_first.entry.now
    (search rules) (search rules) (search rules) c.if-not-is_entry.ensures.1 c.loop-first.invariant

pub loop-first-preserved-else-not-is_entry : goal.loop-first-preserved-else-not-is_entry
loop-first-preserved-else-not-is_entry g c =
    right_entry c.args.thread c.loop-first.rest.now c.in-Some.tail.now c.loop-first.left.now c.in-Some-split_first.others.now c.in-Some.first.now c.in-Some-split_first.entry.now
    (search rules) (search rules) (search rules) (c.if-not-is_entry.ensures.0 refl) c.loop-first.invariant

pub loop-first-preserved : goal.loop-first-preserved
loop-first-preserved g c =
    other_event c.args.thread c.loop-first.rest.now c.in-Some.tail.now c.loop-first.left.now c.in-Some.first.now (search rules) (search rules) c.loop-first.invariant

pub returns : goal.returns
returns g c = at_end c.args.thread c.loop-first.rest.now c.loop-first.left.now c.is_empty.result (search rules) (search rules) c.loop-first.invariant
