use Rattle.loom_engine.proofs.Runs.Rows.{shared_rows_law}
use Rattle.loom_engine.proofs.laws.runs.example_shared_bodies.Goals as goal

pub returns : goal.returns
returns c = shared_rows_law
