use Rattle.loom.proofs.ExplainLemmas.Story.{story_law}
use Rattle.loom.proofs.explain.events.laws.story_comes_to.Goals as goal

pub returns : goal.returns
returns g c = story_law
