use Rattle.loom_engine.proofs.Walk.Driven.{no_skip_law}
use Rattle.loom_engine.proofs.laws.walk.driven_skips_none.Goals as goal

pub returns : goal.returns
returns c = no_skip_law
