use Rattle.loom_engine.proofs.Trees.Replays.{allowed_replay_law}
use Rattle.loom_engine.proofs.laws.report.allowed_replay.Goals as goal

pub returns : goal.returns
returns g c = allowed_replay_law
