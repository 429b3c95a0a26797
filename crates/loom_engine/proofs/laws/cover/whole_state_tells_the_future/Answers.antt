use Rattle.loom_engine.proofs.Covering.Seen.{whole_law}
use Rattle.loom_engine.proofs.laws.cover.whole_state_tells_the_future.Goals as goal

pub returns : goal.returns
returns g c = whole_law
