use Rattle.std.proofs.Common.{arith}
use Rattle.loom_engine.proofs.Nodes.Nodes.Slots.{some_slot, load_meets}
use Rattle.loom_engine.proofs.rt.path.node.Load.meets.Goals as goal

pub returns-then-self-exploring : goal.returns-then-self-exploring
returns-then-self-exploring c =
    let n = c.args.self.now in
    load_meets n.exploring c.args.exploring n.readable c.args.readable.now c.are_same_slots.result c.if-self-exploring.true (omega (arith, c.requires.well)) (some_slot c.args.readable.now c.requires.some)
    (omega arith) c.are_same_slots.ensures
