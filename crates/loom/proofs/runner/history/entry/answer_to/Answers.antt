use Rattle.std.proofs.Common.{rules}
use Rattle.loom.proofs.Turns.Telling.{answered_here, answered_later, not_answered}
use Rattle.loom.proofs.runner.history.entry.answer_to.Goals as goal

pub returns-in-Some-reply_to : goal.returns-in-Some-reply_to
returns-in-Some-reply_to g c =
    answered_here c.args.thread c.loop-first.rest.now c.in-Some.tail.now c.in-Some.first.now c.in-Some-reply_to.reply.now _ c.in-Some.ensures.cases.0 c.in-Some-reply_to.ensures c.loop-first.invariant

pub loop-first-preserved : goal.loop-first-preserved
loop-first-preserved g c =
    answered_later c.args.thread c.loop-first.rest.now c.in-Some.tail.now c.in-Some.first.now _ c.in-Some.ensures.cases.0 c.in_default-reply_to.ensures c.loop-first.invariant

pub returns : goal.returns
returns g c = not_answered c.args.thread c.loop-first.rest.now _ (search rules) c.loop-first.invariant
