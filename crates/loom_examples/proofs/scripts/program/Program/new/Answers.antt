use Rattle.std.proofs.Common.{rules}
use Rattle.loom_examples.proofs.ScriptLemmas.Reading.{names}
use Rattle.loom_examples.proofs.scripts.program.Program.new.Goals as goal

pub invariant_of-result : goal.invariant_of-result
invariant_of-result c = (names c.args.steps.now c.in_ok-places.places.items (search rules), search rules)
