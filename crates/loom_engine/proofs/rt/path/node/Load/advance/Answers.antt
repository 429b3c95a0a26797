use Rattle.std.proofs.Common.{refl, arith}
use Rattle.loom_engine.proofs.Nodes.Nodes.Slots.{load_next, load_last, load_stays}
use Rattle.loom_engine.proofs.rt.path.node.Load.advance.Goals as goal
use Rattle.loom_engine.proofs.rt.path.node.Load.advance.Goals.{then-not-self-via-then-not-self, then-not-self-via-else-not-self+then-self-count_slots}

pub returns-then-not-self-clause-advances : goal.returns-then-not-self-clause-advances
returns-then-not-self-clause-advances c =
    let n = c.args.self.now in
    elim c.then-not-self.branch [
      | then-not-self-via-then-not-self w ↦ (load_stays n.exploring n.readable n.position w.if-not-self.true, refl)
      | then-not-self-via-else-not-self+then-self-count_slots w ↦ (load_last n.exploring n.readable n.position c.requires (omega (arith, w.count_slots.ensures.count, w.if-self-count_slots.true)), refl)
    ]

pub returns-clause-advances : goal.returns-clause-advances
returns-clause-advances c =
    let n = c.args.self.now in
    load_next n.exploring n.readable n.position c.if-not-self.false (omega (arith, c.count_slots.ensures.count, c.if-self-count_slots.false))
