use Rattle.std.proofs.Common.{rules, map}
use Rattle.loom_examples.specs.Scripts.Written.{written}
use Rattle.loom_examples.proofs.ScriptLemmas.Coding.{told_all}
use Rattle.loom_examples.proofs.scripts.code.bytes_of.Goals as goal

pub returns : goal.returns
returns c = told_all c.loop-step.bytes.items (map written c.args.steps.now) c.loop-step.rest.now (search rules) c.loop-step.invariant
