use Rattle.std.proofs.Common.{refl, ap, ◌∙◌, Some}
use Rattle.loom_views.specs.Atomic.History.{update_read_step}
use Rattle.loom_views.proofs.Atomic.Table.Others.{other-loads}
use Rattle.loom_views.proofs.Atomic.Table.Updates.{update_read-moved, kept-unchanged, place-unchanged}
use Rattle.loom_views.proofs.rt.views.Views.update_read.Goals as goal

pub returns-in-Atomic-clause-shown : goal.returns-in-Atomic-clause-shown
returns-in-Atomic-clause-shown c = λ p z b. update_read-moved p c.args.self.now c.args.thread c.args.place c.index-self-thread.result c.in-Atomic.state c.if-thread-self.false c.if-thread-ge-MAX_THREADS.false (c.at_mut.ensures.value ∙ ap Some c.in-Atomic.is) z c.args.slot c.update_read.result c.update_read.new.self c.update_read.ensures.shown b

pub returns-in-Atomic-clause-err : goal.returns-in-Atomic-clause-err
returns-in-Atomic-clause-err c = kept-unchanged c.args.self.now c.args.place c.in-Atomic.state c.update_read.new.self c.update_read.result (c.at_mut.ensures.value ∙ ap Some c.in-Atomic.is) c.update_read.ensures.err

pub returns-in_default : goal.returns-in_default
returns-in_default c = record {
  shown = λ p z b. other-loads p c.args.self.now c.args.thread c.args.place c.at_mut.result.now c.at_mut.ensures.value z c.in_default.not-Atomic (λ s. update_read_step c.args.thread s c.args.slot) _;
  no_slot = λ l. refl;
  err = place-unchanged c.args.self.now c.args.place c.at_mut.result.now c.at_mut.ensures.value;
}
