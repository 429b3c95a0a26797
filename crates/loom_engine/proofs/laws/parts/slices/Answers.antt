use Rattle.loom_engine.proofs.Parts.Slices.{slice_law}
use Rattle.loom_engine.proofs.laws.parts.slices.Goals as goal

pub returns : goal.returns
returns c = slice_law
