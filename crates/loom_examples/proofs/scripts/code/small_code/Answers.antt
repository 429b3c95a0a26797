use Rattle.std.proofs.Common.{rules}
use Rattle.loom_examples.proofs.ScriptLemmas.Coding.{coded}
use Rattle.loom_examples.proofs.scripts.code.small_code.Goals as goal

pub returns : goal.returns
returns c = coded c.args.kind c.in_ok-keep.keep c.in_ok-a.a c.in_ok-b.b c.in_ok-c.c c.in_ok-size.size c.args.keep c.args.a c.args.b c.args.c c.args.text.now (search rules) (search rules) (search rules) (search rules) (search rules)
