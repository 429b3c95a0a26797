use Rattle.loom_engine.proofs.Covering.Begun.{beginning_law}
use Rattle.loom_engine.proofs.laws.cover.events_go_on_from_branch_points.Goals as goal

pub returns : goal.returns
returns g c = beginning_law
