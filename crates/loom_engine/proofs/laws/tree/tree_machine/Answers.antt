use Rattle.loom_engine.proofs.Trees.Machines.{machine_law}
use Rattle.loom_engine.proofs.laws.tree.tree_machine.Goals as goal

pub returns : goal.returns
returns g c = machine_law
