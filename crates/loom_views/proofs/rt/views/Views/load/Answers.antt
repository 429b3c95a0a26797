use Rattle.std.proofs.Common.{refl, ap, ◌∙◌, Some}
use Rattle.loom_views.specs.Atomic.History.{load_step}
use Rattle.loom_views.proofs.Atomic.Table.Accesses.{load-moved}
use Rattle.loom_views.proofs.Atomic.Table.Others.{other-loads}
use Rattle.loom_views.proofs.Atomic.Table.Updates.{all-unchanged, place-unchanged}
use Rattle.loom_views.proofs.rt.views.Views.load.Goals as goal

pub returns-in-Atomic-clause-shown : goal.returns-in-Atomic-clause-shown
returns-in-Atomic-clause-shown c = λ p z b. load-moved p c.args.self.now c.args.thread c.args.place c.index-self-thread.result c.in-Atomic.state c.if-thread-self.false c.if-thread-ge-MAX_THREADS.false (c.at_mut.ensures.value ∙ ap Some c.in-Atomic.is) z c.args.slot c.args.order c.load-answer.result c.load-answer.new.views c.load-answer.new.self c.load-answer.ensures.shown b

pub returns-in-Atomic-clause-err : goal.returns-in-Atomic-clause-err
returns-in-Atomic-clause-err c = all-unchanged c.args.self.now c.args.thread c.args.place c.index-self-thread.result c.load-answer.new.views c.in-Atomic.state c.load-answer.new.self c.load-answer.result (c.at_mut.ensures.value ∙ ap Some c.in-Atomic.is) c.load-answer.ensures.err c.load-answer.ensures.err_views

pub returns-in_default : goal.returns-in_default
returns-in_default c = record {
  shown = λ p z b. other-loads p c.args.self.now c.args.thread c.args.place c.at_mut.result.now c.at_mut.ensures.value z c.in_default.not-Atomic (λ s. load_step c.args.thread s c.args.slot c.args.order) _;
  no_slot = λ l. refl;
  err = place-unchanged c.args.self.now c.args.place c.at_mut.result.now c.at_mut.ensures.value;
}
