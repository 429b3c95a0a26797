use Rattle.loom_engine.proofs.Trees.Reporting.{search_law}
use Rattle.loom_engine.proofs.laws.report.marks_search.Goals as goal

pub returns : goal.returns
returns g c = search_law
