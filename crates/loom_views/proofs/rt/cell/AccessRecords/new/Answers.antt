use Rattle.loom_views.proofs.Views.Cells.{new-shown}
use Rattle.loom_views.proofs.rt.cell.AccessRecords.new.Goals as goal

pub returns : goal.returns
returns c = λ g present s. new-shown g present c.args.views.now.present s
