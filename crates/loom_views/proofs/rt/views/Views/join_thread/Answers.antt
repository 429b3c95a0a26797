use Rattle.loom_views.proofs.Atomic.Table.Moves.{join-moved}
use Rattle.loom_views.proofs.rt.views.Views.join_thread.Goals as goal

pub returns : goal.returns
returns c = λ p z. join-moved p c.args.self.now c.args.thread c.index-self-thread.result c.if-thread-self.false c.if-thread-ge-MAX_THREADS.false z c.args.other c.index-self-other.result c.acquire.new.self c.if-other-self.false c.if-other-ge-MAX_THREADS.false (λ g own k. c.acquire.ensures.shown g c.args.thread own k)
