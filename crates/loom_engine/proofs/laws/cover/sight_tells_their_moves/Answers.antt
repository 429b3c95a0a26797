use Rattle.loom_engine.proofs.Covering.Sight.{sight_moves_law}
use Rattle.loom_engine.proofs.laws.cover.sight_tells_their_moves.Goals as goal

pub returns : goal.returns
returns g = sight_moves_law
