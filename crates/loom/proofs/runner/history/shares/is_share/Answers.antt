use Rattle.loom.proofs.Turns.Telling.{own_share, other_share}
use Rattle.loom.proofs.runner.history.shares.is_share.Goals as goal

pub returns-then-list-thread : goal.returns-then-list-thread
returns-then-list-thread g c =
    own_share c.args.list.now c.args.thread c.list.inside.thread c.list.inside.entries.items c.as_slice.result.now c.args.history.now c.is_part.result c.list.view_is c.if-list-thread.true c.as_slice.ensures.value c.is_part.ensures

pub returns-else-list-thread : goal.returns-else-list-thread
returns-else-list-thread g c = other_share c.args.list.now c.args.thread c.list.inside.thread c.list.inside.entries.items c.args.history.now c.list.view_is c.if-list-thread.false
