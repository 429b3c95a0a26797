use Rattle.loom_views.proofs.Sight.Tells.{sight_law}
use Rattle.loom_views.proofs.laws.sight_tells_moves.Goals as goal

pub returns : goal.returns
returns c = sight_law
