use Rattle.loom_engine.proofs.Trees.Marks.{marking_law}
use Rattle.loom_engine.proofs.laws.tree.schedules_mark.Goals as goal

pub returns : goal.returns
returns c = marking_law
