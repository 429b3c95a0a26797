use Rattle.loom_engine.proofs.Trees.Reporting.{complete_report_law}
use Rattle.loom_engine.proofs.laws.report.complete_report.Goals as goal

pub returns : goal.returns
returns g c = complete_report_law
