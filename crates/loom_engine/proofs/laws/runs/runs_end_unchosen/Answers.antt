use Rattle.loom_engine.proofs.Runs.Bodies.{unchosen_law}
use Rattle.loom_engine.proofs.laws.runs.runs_end_unchosen.Goals as goal

pub returns : goal.returns
returns g c = unchosen_law
