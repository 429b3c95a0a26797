use Rattle.std.proofs.Common.{rules}
use Rattle.loom_examples.proofs.scripts.state.State.has.Goals as goal

pub returns : goal.returns
returns c = search rules
