use Rattle.loom_engine.proofs.Nodes.Nodes.Slots.{same_flags}
use Rattle.loom_engine.proofs.rt.path.node.are_same_slots.Goals as goal

pub returns : goal.returns
returns c = same_flags c.args.one.now c.args.other.now c.eq.result c.eq.ensures
