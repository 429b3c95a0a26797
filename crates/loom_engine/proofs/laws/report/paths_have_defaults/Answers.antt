use Rattle.loom_engine.proofs.Trees.Unchosen.{defaults_law}
use Rattle.loom_engine.proofs.laws.report.paths_have_defaults.Goals as goal

pub returns : goal.returns
returns g c = defaults_law
