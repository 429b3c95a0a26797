use Rattle.std.proofs.Common.{ap, ◌∙◌, Some}
use Rattle.loom_views.proofs.Atomic.Table.Moves.{release-moved}
use Rattle.loom_views.proofs.Atomic.Table.Others.{other-released}
use Rattle.loom_views.proofs.rt.views.Views.release.Goals as goal

pub returns-in-Point : goal.returns-in-Point
returns-in-Point c = λ p z. release-moved p c.args.self.now c.args.thread c.index-self-thread.result c.if-thread-self.false c.if-thread-ge-MAX_THREADS.false z c.args.place c.args.order c.in-Point.sync c.sync_store.new.self (c.at_mut.ensures.value ∙ ap Some c.in-Point.is) (λ g own k. c.sync_store.ensures.shown g c.args.thread own k)

pub returns-in_default : goal.returns-in_default
returns-in_default c = λ p z. other-released p c.args.self.now c.args.thread c.args.place c.at_mut.result.now c.at_mut.ensures.value z c.in_default.not-Point c.args.order
