use Rattle.loom_engine.proofs.Runs.Rows.{rows_law}
use Rattle.loom_engine.proofs.laws.runs.example_bodies.Goals as goal

pub returns : goal.returns
returns c = rows_law
