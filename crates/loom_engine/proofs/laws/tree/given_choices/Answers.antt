use Rattle.loom_engine.proofs.Trees.Given.{given_law}
use Rattle.loom_engine.proofs.laws.tree.given_choices.Goals as goal

pub returns : goal.returns
returns g c = given_law
