use Rattle.loom_views.proofs.Atomic.Table.Moves.{yield-moved}
use Rattle.loom_views.proofs.rt.views.Views.mark_yield.Goals as goal

pub returns : goal.returns
returns c = λ p z. yield-moved p c.args.self.now c.args.thread c.index-self-thread.result c.if-thread-self.false c.if-thread-ge-MAX_THREADS.false z c.version.result c.version.ensures.value
