use Rattle.std.proofs.Common.{ap, ◌∙◌, Some}
use Rattle.loom_views.specs.Atomic.History.{mutate_end_step}
use Rattle.loom_views.proofs.Atomic.Table.Others.{other-stores}
use Rattle.loom_views.proofs.Atomic.Table.Updates.{with_mut_end-moved, kept-unchanged, place-unchanged}
use Rattle.loom_views.proofs.rt.views.Views.with_mut_end.Goals as goal

pub returns-in-Atomic-clause-shown : goal.returns-in-Atomic-clause-shown
returns-in-Atomic-clause-shown c = λ p z. with_mut_end-moved p c.args.self.now c.args.thread c.args.place c.index-self-thread.result c.in-Atomic.state c.if-thread-self.false c.if-thread-ge-MAX_THREADS.false (c.at_mut.ensures.value ∙ ap Some c.in-Atomic.is) z c.args.value c.with_mut_end.result c.with_mut_end.new.self c.with_mut_end.ensures.shown

pub returns-in-Atomic-clause-err : goal.returns-in-Atomic-clause-err
returns-in-Atomic-clause-err c = kept-unchanged c.args.self.now c.args.place c.in-Atomic.state c.with_mut_end.new.self c.with_mut_end.result (c.at_mut.ensures.value ∙ ap Some c.in-Atomic.is) c.with_mut_end.ensures.err

pub returns-in_default : goal.returns-in_default
returns-in_default c = record {
  shown = λ p z. other-stores p c.args.self.now c.args.thread c.args.place c.at_mut.result.now c.at_mut.ensures.value z c.in_default.not-Atomic (λ s. mutate_end_step s c.args.value) _;
  err = place-unchanged c.args.self.now c.args.place c.at_mut.result.now c.at_mut.ensures.value;
}
