use Rattle.loom_engine.proofs.Trees.Driving.{drive_law}
use Rattle.loom_engine.proofs.laws.tree.path_drives.Goals as goal

pub returns : goal.returns
returns g c = drive_law
