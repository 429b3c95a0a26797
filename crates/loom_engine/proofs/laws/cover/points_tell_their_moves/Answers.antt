use Rattle.loom_engine.proofs.Covering.Themselves.{themselves_law}
use Rattle.loom_engine.proofs.laws.cover.points_tell_their_moves.Goals as goal

pub returns : goal.returns
returns g = themselves_law
