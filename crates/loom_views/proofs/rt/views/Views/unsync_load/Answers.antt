use Rattle.std.proofs.Common.{ap, ◌∙◌, Some}
use Rattle.loom_views.specs.Atomic.History.{unsync_load_step}
use Rattle.loom_views.proofs.Atomic.Table.Others.{other-loads}
use Rattle.loom_views.proofs.Atomic.Table.Updates.{unsync_load-moved, kept-unchanged, place-unchanged}
use Rattle.loom_views.proofs.rt.views.Views.unsync_load.Goals as goal

pub returns-in-Atomic-clause-shown : goal.returns-in-Atomic-clause-shown
returns-in-Atomic-clause-shown c = λ p z. unsync_load-moved p c.args.self.now c.args.thread c.args.place c.index-self-thread.result c.in-Atomic.state c.if-thread-self.false c.if-thread-ge-MAX_THREADS.false (c.at_mut.ensures.value ∙ ap Some c.in-Atomic.is) z c.unsync_load.result c.unsync_load.new.self c.unsync_load.ensures.shown

pub returns-in-Atomic-clause-err : goal.returns-in-Atomic-clause-err
returns-in-Atomic-clause-err c = kept-unchanged c.args.self.now c.args.place c.in-Atomic.state c.unsync_load.new.self c.unsync_load.result (c.at_mut.ensures.value ∙ ap Some c.in-Atomic.is) c.unsync_load.ensures.err

pub returns-in_default : goal.returns-in_default
returns-in_default c = record {
  shown = λ p z. other-loads p c.args.self.now c.args.thread c.args.place c.at_mut.result.now c.at_mut.ensures.value z c.in_default.not-Atomic unsync_load_step _;
  err = place-unchanged c.args.self.now c.args.place c.at_mut.result.now c.at_mut.ensures.value;
}
