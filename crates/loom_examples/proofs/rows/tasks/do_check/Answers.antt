use Rattle.std.proofs.Common.{inr}
use Rattle.loom_examples.proofs.rows.tasks.do_check.Goals as goal

pub returns-in_ok-explain_report-in-Ok : goal.returns-in_ok-explain_report-in-Ok
returns-in_ok-explain_report-in-Ok g c =
    inr (c.in-Ok.report, c.in-Ok.ensures.reports, (g.O.Write.contents c.print_report.new.out, c.in_ok-status-in-Ok.ensures, c.in_ok-explain_report-in-Ok.ensures))
