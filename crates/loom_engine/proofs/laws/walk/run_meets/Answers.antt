use Rattle.loom_engine.proofs.Walk.UnderWay.{meeting_law}
use Rattle.loom_engine.proofs.laws.walk.run_meets.Goals as goal

pub returns : goal.returns
returns c = meeting_law
