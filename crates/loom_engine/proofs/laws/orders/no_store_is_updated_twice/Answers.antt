use Rattle.loom_engine.proofs.Runs.Updating.{once_over_histories}
use Rattle.loom_engine.proofs.laws.orders.no_store_is_updated_twice.Goals as goal

pub returns : goal.returns
returns g c = once_over_histories
