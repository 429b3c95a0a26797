use Rattle.loom_engine.proofs.Covering.Table.{table_law}
use Rattle.loom_engine.proofs.laws.cover.table_makes_a_check.Goals as goal

pub returns : goal.returns
returns g c = table_law
