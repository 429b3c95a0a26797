use Rattle.std.proofs.Common.{ap, ◌∙◌, Some}
use Rattle.loom_views.proofs.Atomic.Table.Updates.{update_fail-moved}
use Rattle.loom_views.proofs.rt.views.Views.update_fail.Goals as goal

pub returns-in-Atomic : goal.returns-in-Atomic
returns-in-Atomic c = λ p z b. update_fail-moved p c.args.self.now c.args.thread c.args.place c.index-self-thread.result c.in-Atomic.state c.if-thread-self.false c.if-thread-ge-MAX_THREADS.false (c.at.ensures ∙ ap Some c.in-Atomic.is) z c.args.slot c.args.failure c.update_fail.new.views c.update_fail.ensures b
