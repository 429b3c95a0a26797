use Rattle.loom_engine.proofs.Parts.Search.{whole_law}
use Rattle.loom_engine.proofs.laws.parts.whole_search.Goals as goal

pub returns : goal.returns
returns c = whole_law
