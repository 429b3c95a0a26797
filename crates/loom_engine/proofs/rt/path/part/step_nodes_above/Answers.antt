use Rattle.std.proofs.Common.{◌≡◌, ◌≤◌, ◌-◌, suc, length, take, Some, refl, sym, ap, subst, ◌∙◌, arith}
use Rattle.loom_engine.specs.Path.Nodes.{AreWell, stored}
use Rattle.loom_engine.specs.Path.Tallies.{AreNoted}
use Rattle.loom_engine.specs.Parts.Floors.{step_above}
use Rattle.loom_engine.proofs.Nodes.Nodes.Fronts.{fewer_front, well_last, well_set, well_front}
use Rattle.loom_engine.proofs.Nodes.Notes.{noted_set, noted_front}
use Rattle.loom_engine.proofs.Path.Fitting.{well_fit}
use Rattle.loom_engine.proofs.Parts.Fronts.{above_moved, above_dropped, above_done, above_none, front_same, whole_front}
use Rattle.loom_engine.proofs.rt.path.part.step_nodes_above.Goals as goal
use Rattle.loom_engine.proofs.rt.path.part.step_nodes_above.Goals.{then-not-is_done+else-advance, else-not-is_done}

pub advance-requires : goal.advance-requires
advance-requires c =
    let nodes = c.loop-nodes.nodes in
    let last : suc (c.len-last.result - 1) ≡ length nodes = omega (arith, c.len-last.ensures, c.len.ensures, c.loop-nodes-test.true) in
    well_last nodes (c.len-last.result - 1) c.get-node.result last c.get-node.ensures c.loop-nodes.invariant.well

pub set-requires-clause-fit : goal.set-requires-clause-fit
set-requires-clause-fit c = well_fit c.advance.new.self c.advance.ensures.rests

pub returns-then-advance-clause-steps : goal.returns-then-advance-clause-steps
returns-then-advance-clause-steps c =
    let nodes = c.loop-nodes.nodes in
    let last : suc (c.len-last.result - 1) ≡ length nodes = omega (arith, c.len-last.ensures, c.len.ensures, c.loop-nodes-test.true) in
    let high : c.args.floor ≤ c.len-last.result - 1 = omega (arith, c.len-last.ensures, c.len.ensures, c.loop-nodes-test.true) in
    c.loop-nodes.invariant.same
    ∙ above_moved c.args.floor nodes (c.len-last.result - 1) c.get-node.result c.advance.new.self high last c.get-node.ensures c.if-advance.ensures.advances
    ∙ ap (λ l. Some (stored l)) (sym c.set.ensures)

pub returns-then-advance-clause-well : goal.returns-then-advance-clause-well
returns-then-advance-clause-well c =
    subst AreWell (sym c.set.ensures) (well_set c.loop-nodes.nodes (c.len-last.result - 1) c.advance.new.self c.loop-nodes.invariant.well c.advance.ensures.rests)

pub returns-then-advance-clause-noted : goal.returns-then-advance-clause-noted
returns-then-advance-clause-noted c =
    let nodes = c.loop-nodes.nodes in
    let last : suc (c.len-last.result - 1) ≡ length nodes = omega (arith, c.len-last.ensures, c.len.ensures, c.loop-nodes-test.true) in
    subst AreNoted (sym c.set.ensures)
    (noted_set nodes (c.len-last.result - 1) c.get-node.result c.advance.new.self last c.get-node.ensures c.loop-nodes.invariant.noted c.advance.ensures.noted)

pub loop-nodes-preserved : goal.loop-nodes-preserved
loop-nodes-preserved c =
    let nodes = c.loop-nodes.nodes in
    let last : suc (c.len-last.result - 1) ≡ length nodes = omega (arith, c.len-last.ensures, c.len.ensures, c.loop-nodes-test.true) in
    let high : c.args.floor ≤ c.len-last.result - 1 = omega (arith, c.len-last.ensures, c.len.ensures, c.loop-nodes-test.true) in
    let front = c.truncate.ensures in
    let dropped : step_above c.args.floor (stored nodes) ≡ step_above c.args.floor (stored (take (c.len-last.result - 1) nodes)) =
    elim c.if-not-is_done.branch [
      | then-not-is_done+else-advance w ↦ above_dropped c.args.floor nodes (c.len-last.result - 1) w.get-node.result high last w.get-node.ensures w.if-advance.ensures.advances.0
      | else-not-is_done w ↦ above_done c.args.floor nodes (c.len-last.result - 1) high last (w.if-not-is_done.ensures refl)
    ] in
    record {
      well = subst AreWell (sym front) (well_front nodes (c.len-last.result - 1) c.loop-nodes.invariant.well);
      noted = subst AreNoted (sym front) (noted_front nodes (c.len-last.result - 1) c.loop-nodes.invariant.noted);
      fewer = omega (arith, c.loop-nodes.invariant.fewer, ap length front, fewer_front nodes (c.len-last.result - 1));
      front = ap (take c.args.floor) front ∙ front_same c.args.floor nodes (c.len-last.result - 1) high ∙ c.loop-nodes.invariant.front;
      same = c.loop-nodes.invariant.same ∙ dropped ∙ ap (λ l. step_above c.args.floor (stored l)) (sym front);
    }

pub returns-clause-steps : goal.returns-clause-steps
returns-clause-steps c =
    let nodes = c.loop-nodes.nodes in
    let short : length nodes ≤ c.args.floor = omega (arith, c.len.ensures, c.loop-nodes-test.false) in (
      c.loop-nodes.invariant.same ∙ above_none c.args.floor nodes short,
      sym (whole_front c.args.floor nodes short) ∙ c.loop-nodes.invariant.front,
    )
