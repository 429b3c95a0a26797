use Rattle.loom_engine.proofs.Runs.Reduced.{reduced_rows_law}
use Rattle.loom_engine.proofs.laws.runs.example_reduced_searches.Goals as goal

pub returns : goal.returns
returns c = reduced_rows_law
