use Rattle.loom_engine.proofs.Trees.Failing.{no_such_failure_law}
use Rattle.loom_engine.proofs.laws.report.no_such_failure.Goals as goal

pub returns : goal.returns
returns g c = no_such_failure_law
