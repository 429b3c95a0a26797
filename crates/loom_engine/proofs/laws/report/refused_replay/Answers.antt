use Rattle.loom_engine.proofs.Trees.Replays.{refused_replay_law}
use Rattle.loom_engine.proofs.laws.report.refused_replay.Goals as goal

pub returns : goal.returns
returns g c = refused_replay_law
