use Rattle.loom_engine.proofs.Walk.Round.{round_law}
use Rattle.loom_engine.proofs.laws.walk.one_round.Goals as goal

pub returns : goal.returns
returns c = round_law
