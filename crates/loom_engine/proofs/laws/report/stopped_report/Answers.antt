use Rattle.loom_engine.proofs.Trees.Reporting.{stopped_report_law}
use Rattle.loom_engine.proofs.laws.report.stopped_report.Goals as goal

pub returns : goal.returns
returns g c = stopped_report_law
