use Rattle.loom_engine.proofs.Covering.Handing.{handing_law}
use Rattle.loom_engine.proofs.laws.cover.parts_begin_with_operations.Goals as goal

pub returns : goal.returns
returns g c = handing_law
