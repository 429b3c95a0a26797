use Rattle.loom_engine.proofs.Covering.Ways.{ways_law}
use Rattle.loom_engine.proofs.laws.cover.ways_lead_to_ends.Goals as goal

pub returns : goal.returns
returns g c = ways_law
