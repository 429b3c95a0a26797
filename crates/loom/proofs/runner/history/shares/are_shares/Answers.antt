use Rattle.std.proofs.Common.{refl, arith, below_more}
use Rattle.loom.proofs.History.Settling.{wrong_share, right_share, settled}
use Rattle.loom.proofs.runner.history.shares.are_shares.Goals as goal

pub returns-then-not-is_share : goal.returns-then-not-is_share
returns-then-not-is_share g c =
    wrong_share c.args.told.now c.loop-k.k c.threads.result c.index-told-k.result c.args.history.now c.events-events.result.now c.events-events.ensures c.threads.ensures c.if-told-threads.false
    c.loop-k-test.true c.index-told-k.is c.if-not-is_share.ensures.1

pub loop-k-preserved : goal.loop-k-preserved
loop-k-preserved g c =
    below_more _ c.loop-k.k c.loop-k.invariant
    (right_share c.args.told.now c.loop-k.k c.index-told-k.result c.events-events.result.now c.loop-k-test.true c.index-told-k.is (c.if-not-is_share.ensures.0 refl))

pub returns : goal.returns
returns g c =
    settled c.args.told.now c.threads.result c.args.history.now c.events-events.result.now c.events-events.ensures c.threads.ensures c.if-told-threads.false
    (λ n below. c.loop-k.invariant n (omega (arith, below, c.loop-k-test.false)))
