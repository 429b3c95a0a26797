use Rattle.loom_engine.proofs.Parts.Floors.{floor_law, part_law, raise_law, branch_law, end_law}
use Rattle.loom_engine.proofs.laws.parts.floors.Goals as goal

pub returns-clause-round : goal.returns-clause-round
returns-clause-round c = floor_law

pub returns-clause-part : goal.returns-clause-part
returns-clause-part c = part_law

pub returns-clause-raise : goal.returns-clause-raise
returns-clause-raise c = raise_law

pub returns-clause-branch : goal.returns-clause-branch
returns-clause-branch c = branch_law

pub returns-clause-end : goal.returns-clause-end
returns-clause-end c = end_law
