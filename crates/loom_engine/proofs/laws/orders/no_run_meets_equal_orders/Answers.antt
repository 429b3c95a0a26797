use Rattle.loom_engine.proofs.Runs.Ordering.{unequal_runs_law}
use Rattle.loom_engine.proofs.laws.orders.no_run_meets_equal_orders.Goals as goal

pub returns : goal.returns
returns g c = unequal_runs_law
