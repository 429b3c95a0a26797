use Rattle.loom_examples.proofs.ScriptLemmas.Reading.{stands_at, stands_nowhere}
use Rattle.loom_examples.proofs.scripts.program.place_of.Goals as goal

pub returns-in-Some : goal.returns-in-Some
returns-in-Some c = stands_at c.args.steps.now c.args.name.now c.in-Some.place c.in-Some.ensures

pub returns-in-None : goal.returns-in-None
returns-in-None c = stands_nowhere c.args.steps.now c.args.name.now c.in-None.ensures
