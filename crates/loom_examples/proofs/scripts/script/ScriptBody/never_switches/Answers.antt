use Rattle.loom_examples.proofs.ScriptLemmas.Switching.{script_never}
use Rattle.loom_examples.proofs.scripts.script.ScriptBody.never_switches.Goals as goal

pub returns : goal.returns
returns c = λ is. script_never c.args.self.now (cc (is, c.never_switches.ensures, c.program.ensures))
