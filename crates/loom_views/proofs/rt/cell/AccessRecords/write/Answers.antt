use Rattle.std.proofs.Common.{sym, ◌∙◌}
use Rattle.loom_views.proofs.Views.Cells.{write-raced_with_write, write-raced_with_read, write-recorded}
use Rattle.loom_views.proofs.rt.cell.AccessRecords.write.Goals as goal
use Rattle.loom_views.proofs.rt.cell.AccessRecords.write.Goals.{then-not-is_within-via-then-not-is_within, then-not-is_within-via-else-not-is_within+then-not-is_within-2}

pub returns-then-not-is_within-clause-shown : goal.returns-then-not-is_within-clause-shown
returns-then-not-is_within-clause-shown c = λ g present cell ch s z. elim c.then-not-is_within.branch [
  | then-not-is_within-via-then-not-is_within w ↦ write-raced_with_write g present cell c.args.self.now c.args.views.now.present ch s z (sym c.is_within.ensures.test ∙ w.if-not-is_within.true)
  | then-not-is_within-via-else-not-is_within+then-not-is_within-2 w ↦ write-raced_with_read g present cell c.args.self.now c.args.views.now.present ch s z (sym c.is_within.ensures.test ∙ w.if-not-is_within.false) (sym w.is_within-else-not-is_within.ensures.test ∙ w.if-not-is_within-2.true)
]

pub returns-clause-shown : goal.returns-clause-shown
returns-clause-shown c = λ g present cell ch s z. rw c.join.ensures.joined (write-recorded g present cell c.args.self.now c.args.views.now.present ch s z (sym c.is_within.ensures.test ∙ c.if-not-is_within.false) (sym c.is_within-else-not-is_within.ensures.test ∙ c.if-not-is_within-2.false))
