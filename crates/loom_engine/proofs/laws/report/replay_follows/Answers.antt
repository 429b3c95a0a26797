use Rattle.loom_engine.proofs.Trees.Replays.{replay_follows_law}
use Rattle.loom_engine.proofs.laws.report.replay_follows.Goals as goal

pub returns : goal.returns
returns g c = replay_follows_law
