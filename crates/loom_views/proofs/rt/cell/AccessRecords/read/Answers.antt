use Rattle.std.proofs.Common.{sym, ◌∙◌}
use Rattle.loom_views.proofs.Views.Cells.{read-raced, read-recorded}
use Rattle.loom_views.proofs.rt.cell.AccessRecords.read.Goals as goal

pub returns-then-not-is_within-clause-shown : goal.returns-then-not-is_within-clause-shown
returns-then-not-is_within-clause-shown c = λ g present cell ch s z. read-raced g present cell c.args.self.now c.args.views.now.present ch s z (sym c.is_within.ensures.test ∙ c.if-not-is_within.true)

pub returns-clause-shown : goal.returns-clause-shown
returns-clause-shown c = λ g present cell ch s z. rw c.join.ensures.joined (read-recorded g present cell c.args.self.now c.args.views.now.present ch s z (sym c.is_within.ensures.test ∙ c.if-not-is_within.false))
