use Rattle.loom_views.proofs.Atomic.Table.Moves.{stamp_acquire-moved}
use Rattle.loom_views.proofs.rt.views.Views.acquire_from_stamp.Goals as goal

pub returns : goal.returns
returns c = λ p z. stamp_acquire-moved p c.args.self.now c.args.thread c.index-self-thread.result c.if-thread-self.false c.if-thread-ge-MAX_THREADS.false z c.args.stamp c.at.result.now c.sync_load.new.views c.at.ensures (λ g own k. c.sync_load.ensures.shown g c.args.thread own k)
