use Rattle.loom_engine.proofs.Covering.States.{states_law}
use Rattle.loom_engine.proofs.laws.cover.equal_states_have_equal_futures.Goals as goal

pub returns : goal.returns
returns g c = states_law
