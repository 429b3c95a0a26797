use Rattle.std.proofs.Common.{refl, ap, ◌∙◌, Some}
use Rattle.loom_views.specs.Atomic.History.{update_write_step}
use Rattle.loom_views.proofs.Atomic.Table.Others.{other-stores}
use Rattle.loom_views.proofs.Atomic.Table.Updates.{update_write-moved, all-unchanged, place-unchanged}
use Rattle.loom_views.proofs.rt.views.Views.update_write.Goals as goal

pub returns-in-Atomic-clause-shown : goal.returns-in-Atomic-clause-shown
returns-in-Atomic-clause-shown c = λ p z b. update_write-moved p c.args.self.now c.args.thread c.args.place c.index-self-thread.result c.in-Atomic.state c.if-thread-self.false c.if-thread-ge-MAX_THREADS.false (c.at_mut.ensures.value ∙ ap Some c.in-Atomic.is) z c.args.slot c.args.value c.args.success c.update_write-answer.result c.update_write-answer.new.views c.update_write-answer.new.self c.update_write-answer.ensures.shown b

pub returns-in-Atomic-clause-err : goal.returns-in-Atomic-clause-err
returns-in-Atomic-clause-err c = all-unchanged c.args.self.now c.args.thread c.args.place c.index-self-thread.result c.update_write-answer.new.views c.in-Atomic.state c.update_write-answer.new.self c.update_write-answer.result (c.at_mut.ensures.value ∙ ap Some c.in-Atomic.is) c.update_write-answer.ensures.err c.update_write-answer.ensures.err_views

pub returns-in_default : goal.returns-in_default
returns-in_default c = record {
  shown = λ p z b. other-stores p c.args.self.now c.args.thread c.args.place c.at_mut.result.now c.at_mut.ensures.value z c.in_default.not-Atomic (λ s. update_write_step c.args.thread s c.args.slot c.args.value c.args.success) _;
  no_slot = λ l. refl;
  err = place-unchanged c.args.self.now c.args.place c.at_mut.result.now c.at_mut.ensures.value;
}
