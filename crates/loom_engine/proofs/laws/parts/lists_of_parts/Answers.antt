use Rattle.loom_engine.proofs.Parts.Lasting.{parts_law}
use Rattle.loom_engine.proofs.laws.parts.lists_of_parts.Goals as goal

pub returns : goal.returns
returns c = parts_law
