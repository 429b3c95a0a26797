use Rattle.std.proofs.Common.{◌≡◌, ◌-◌, suc, length, take, Some, refl, sym, ap, subst, ◌∙◌, arith}
use Rattle.loom_engine.specs.Walk.Path.{step}
use Rattle.loom_engine.specs.Path.Nodes.{AreWell}
use Rattle.loom_engine.specs.Path.Nodes.{stored}
use Rattle.loom_engine.specs.Path.Tallies.{AreNoted}
use Rattle.loom_engine.proofs.Nodes.Nodes.Fronts.{fewer_front, well_last, well_set, well_front, step_moved, step_dropped, step_done, step_empty, has_last, has_none}
use Rattle.loom_engine.proofs.Nodes.Notes.{noted_set, noted_front}
use Rattle.loom_engine.proofs.Path.Fitting.{well_fit}
use Rattle.loom_engine.proofs.rt.path.nodes.step_nodes.Goals as goal
use Rattle.loom_engine.proofs.rt.path.nodes.step_nodes.Goals.{then-not-is_done+else-advance, else-not-is_done}

pub advance-requires : goal.advance-requires
advance-requires c =
    let nodes = c.loop-nodes.nodes in
    let last : suc (c.len-last.result - 1) ≡ length nodes = ap (λ k. suc (k - 1)) c.len-last.ensures ∙ has_last nodes (length nodes) refl c.loop-nodes-test.ensures in
    well_last nodes (c.len-last.result - 1) c.get-node.result last c.get-node.ensures c.loop-nodes.invariant.well

pub set-requires-clause-fit : goal.set-requires-clause-fit
set-requires-clause-fit c = well_fit c.advance.new.self c.advance.ensures.rests

pub returns-then-advance-clause-steps : goal.returns-then-advance-clause-steps
returns-then-advance-clause-steps c =
    let nodes = c.loop-nodes.nodes in
    let last : suc (c.len-last.result - 1) ≡ length nodes = ap (λ k. suc (k - 1)) c.len-last.ensures ∙ has_last nodes (length nodes) refl c.loop-nodes-test.ensures in
    c.loop-nodes.invariant.same
    ∙ step_moved nodes (c.len-last.result - 1) c.get-node.result c.advance.new.self last c.get-node.ensures c.if-advance.ensures.advances
    ∙ ap (λ l. Some (stored l)) (sym c.set.ensures)

pub returns-then-advance-clause-well : goal.returns-then-advance-clause-well
returns-then-advance-clause-well c =
    subst AreWell (sym c.set.ensures) (well_set c.loop-nodes.nodes (c.len-last.result - 1) c.advance.new.self c.loop-nodes.invariant.well c.advance.ensures.rests)

pub returns-then-advance-clause-noted : goal.returns-then-advance-clause-noted
returns-then-advance-clause-noted c =
    let nodes = c.loop-nodes.nodes in
    let last : suc (c.len-last.result - 1) ≡ length nodes = ap (λ k. suc (k - 1)) c.len-last.ensures ∙ has_last nodes (length nodes) refl c.loop-nodes-test.ensures in
    subst AreNoted (sym c.set.ensures)
    (noted_set nodes (c.len-last.result - 1) c.get-node.result c.advance.new.self last c.get-node.ensures c.loop-nodes.invariant.noted c.advance.ensures.noted)

pub loop-nodes-preserved : goal.loop-nodes-preserved
loop-nodes-preserved c =
    let nodes = c.loop-nodes.nodes in
    let last : suc (c.len-last.result - 1) ≡ length nodes = ap (λ k. suc (k - 1)) c.len-last.ensures ∙ has_last nodes (length nodes) refl c.loop-nodes-test.ensures in
    let front = c.truncate.ensures in
    let dropped : step (stored nodes) ≡ step (stored (take (c.len-last.result - 1) nodes)) =
    elim c.if-not-is_done.branch [
      | then-not-is_done+else-advance w ↦ step_dropped nodes (c.len-last.result - 1) w.get-node.result last w.get-node.ensures w.if-advance.ensures.advances.0
      | else-not-is_done w ↦ step_done nodes (c.len-last.result - 1) last (w.if-not-is_done.ensures refl)
    ] in
    record {
      well = subst AreWell (sym front) (well_front nodes (c.len-last.result - 1) c.loop-nodes.invariant.well);
      noted = subst AreNoted (sym front) (noted_front nodes (c.len-last.result - 1) c.loop-nodes.invariant.noted);
      fewer = omega (arith, c.loop-nodes.invariant.fewer, ap length front, fewer_front nodes (c.len-last.result - 1));
      same = c.loop-nodes.invariant.same ∙ dropped ∙ ap (λ l. step (stored l)) (sym front);
    }

pub returns-clause-steps : goal.returns-clause-steps
returns-clause-steps c =
    let nodes = c.loop-nodes.nodes in
    c.loop-nodes.invariant.same ∙ step_empty nodes (has_none nodes (length nodes) refl c.loop-nodes-test.ensures)
