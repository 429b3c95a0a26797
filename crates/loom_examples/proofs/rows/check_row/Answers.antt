use Rattle.loom_examples.proofs.RowLemmas.Checking.{checked_alone}
use Rattle.loom_examples.proofs.rows.check_row.Goals as goal

pub returns : goal.returns
returns g c = checked_alone c.args.row.now.checked c.args.row.now.settings _ _ _ c.do_task.result c.do_task.ensures
