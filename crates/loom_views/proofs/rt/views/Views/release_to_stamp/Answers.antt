use Rattle.loom_views.proofs.Atomic.Table.Moves.{stamp_release-moved}
use Rattle.loom_views.proofs.rt.views.Views.release_to_stamp.Goals as goal

pub returns : goal.returns
returns c = λ p z. stamp_release-moved p c.args.self.now c.args.thread c.index-self-thread.result c.if-thread-self.false c.if-thread-ge-MAX_THREADS.false z c.args.stamp c.args.order c.at_mut.result.now c.sync_store.new.self c.at_mut.ensures.value (λ g own k. c.sync_store.ensures.shown g c.args.thread own k)
