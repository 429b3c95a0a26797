use Rattle.loom_views.proofs.Atomic.Table.Moves.{fence-moved}
use Rattle.loom_views.proofs.rt.views.Views.release_fence.Goals as goal

pub returns : goal.returns
returns c = λ p z. fence-moved p c.args.self.now c.args.thread c.index-self-thread.result c.if-thread-self.false c.if-thread-ge-MAX_THREADS.false z c.release_fence.new.self (λ g own. c.release_fence.ensures.shown g c.args.thread own)
