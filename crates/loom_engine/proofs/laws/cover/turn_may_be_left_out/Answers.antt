use Rattle.loom_engine.proofs.Covering.Seen.{turn_law}
use Rattle.loom_engine.proofs.laws.cover.turn_may_be_left_out.Goals as goal

pub returns : goal.returns
returns g c = turn_law
