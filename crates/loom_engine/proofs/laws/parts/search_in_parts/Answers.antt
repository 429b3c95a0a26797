use Rattle.loom_engine.proofs.Parts.Search.{search_law}
use Rattle.loom_engine.proofs.laws.parts.search_in_parts.Goals as goal

pub returns : goal.returns
returns c = search_law
