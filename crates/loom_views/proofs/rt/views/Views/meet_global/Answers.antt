use Rattle.loom_views.proofs.Atomic.Table.Fences.{meet_global-moved}
use Rattle.loom_views.proofs.rt.views.Views.meet_global.Goals as goal

pub returns : goal.returns
returns c = λ p z. meet_global-moved p c.args.self.now c.args.thread c.index-self-thread.result c.if-thread-self.false c.if-thread-ge-MAX_THREADS.false z c.meet.new.self c.meet.new.global (λ g own k. c.meet.ensures.shown g c.args.thread own k) c.meet.ensures.met
