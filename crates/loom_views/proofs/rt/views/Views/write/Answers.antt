use Rattle.std.proofs.Common.{ap, ◌∙◌, Some}
use Rattle.loom_views.specs.CellAccesses.{write_step}
use Rattle.loom_views.proofs.Atomic.Table.Cells.{access-recorded, records-unchanged}
use Rattle.loom_views.proofs.Atomic.Table.Others.{other-records}
use Rattle.loom_views.proofs.Atomic.Table.Updates.{place-unchanged}
use Rattle.loom_views.proofs.rt.views.Views.write.Goals as goal

pub returns-in-Cell-clause-shown : goal.returns-in-Cell-clause-shown
returns-in-Cell-clause-shown c = λ p z. access-recorded p c.args.self.now c.args.thread c.args.place c.index-self-thread.result c.in-Cell.records c.if-thread-self.false c.if-thread-ge-MAX_THREADS.false (c.at_mut.ensures.value ∙ ap Some c.in-Cell.is) z write_step c.write.result c.write.new.self c.write.ensures.shown

pub returns-in-Cell-clause-err : goal.returns-in-Cell-clause-err
returns-in-Cell-clause-err c = records-unchanged c.args.self.now c.args.place c.in-Cell.records c.write.new.self c.write.result (c.at_mut.ensures.value ∙ ap Some c.in-Cell.is) c.write.ensures.err

pub returns-in_default : goal.returns-in_default
returns-in_default c = record {
  shown = λ p z. other-records p c.args.self.now c.args.thread c.args.place c.at_mut.result.now c.at_mut.ensures.value z c.in_default.not-Cell write_step _;
  err = place-unchanged c.args.self.now c.args.place c.at_mut.result.now c.at_mut.ensures.value;
}
