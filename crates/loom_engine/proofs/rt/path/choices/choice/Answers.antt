use Rattle.std.proofs.Common.{None}
use Rattle.loom_engine.proofs.rt.path.choices.choice.Goals as goal

pub returns : goal.returns
returns c = c.choice.ensures (record { switch = None; nearest = None })
