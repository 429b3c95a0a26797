use Rattle.loom_engine.proofs.Parts.Works.{work_law}
use Rattle.loom_engine.proofs.laws.parts.work_in_parts.Goals as goal

pub returns : goal.returns
returns c = work_law
