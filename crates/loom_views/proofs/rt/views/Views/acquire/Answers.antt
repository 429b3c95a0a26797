use Rattle.std.proofs.Common.{ap, ◌∙◌, Some}
use Rattle.loom_views.proofs.Atomic.Table.Moves.{acquire-moved}
use Rattle.loom_views.proofs.rt.views.Views.acquire.Goals as goal

pub returns-in-Point : goal.returns-in-Point
returns-in-Point c = λ p z. acquire-moved p c.args.self.now c.args.thread c.index-self-thread.result c.if-thread-self.false c.if-thread-ge-MAX_THREADS.false z c.args.place c.in-Point.sync c.sync_load.new.views (c.at.ensures ∙ ap Some c.in-Point.is) (λ g own k. c.sync_load.ensures.shown g c.args.thread own k)
