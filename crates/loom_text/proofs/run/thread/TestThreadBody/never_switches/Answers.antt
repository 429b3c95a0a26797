use Rattle.loom_text.proofs.SwitchLemmas.{never_switches}
use Rattle.loom_text.proofs.run.thread.TestThreadBody.never_switches.Goals as goal

pub returns : goal.returns
returns c = λ is body answer comes. never_switches body answer
