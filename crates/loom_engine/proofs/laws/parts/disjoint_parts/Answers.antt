use Rattle.loom_engine.proofs.Parts.Disjoint.{disjoint_law}
use Rattle.loom_engine.proofs.laws.parts.disjoint_parts.Goals as goal

pub returns : goal.returns
returns c = disjoint_law
