use Rattle.loom_engine.proofs.Trees.Reporting.{failed_report_law}
use Rattle.loom_engine.proofs.laws.report.failed_report.Goals as goal

pub returns : goal.returns
returns g c = failed_report_law
