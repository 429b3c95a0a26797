use Rattle.std.proofs.Common.{ap, ◌∙◌, Some}
use Rattle.loom_views.specs.Atomic.History.{store_step}
use Rattle.loom_views.proofs.Atomic.Table.Accesses.{store-moved}
use Rattle.loom_views.proofs.Atomic.Table.Others.{other-stores}
use Rattle.loom_views.proofs.Atomic.Table.Updates.{kept-unchanged, place-unchanged}
use Rattle.loom_views.proofs.rt.views.Views.store.Goals as goal

pub returns-in-Atomic-clause-shown : goal.returns-in-Atomic-clause-shown
returns-in-Atomic-clause-shown c = λ p z. store-moved p c.args.self.now c.args.thread c.args.place c.index-self-thread.result c.in-Atomic.state c.if-thread-self.false c.if-thread-ge-MAX_THREADS.false (c.at_mut.ensures.value ∙ ap Some c.in-Atomic.is) z c.args.value c.args.order c.store.result c.store.new.self c.store.ensures.shown

pub returns-in-Atomic-clause-err : goal.returns-in-Atomic-clause-err
returns-in-Atomic-clause-err c = kept-unchanged c.args.self.now c.args.place c.in-Atomic.state c.store.new.self c.store.result (c.at_mut.ensures.value ∙ ap Some c.in-Atomic.is) c.store.ensures.err

pub returns-in_default : goal.returns-in_default
returns-in_default c = record {
  shown = λ p z. other-stores p c.args.self.now c.args.thread c.args.place c.at_mut.result.now c.at_mut.ensures.value z c.in_default.not-Atomic (λ s. store_step c.args.thread s c.args.value c.args.order) _;
  err = place-unchanged c.args.self.now c.args.place c.at_mut.result.now c.at_mut.ensures.value;
}
