use Rattle.std.proofs.Common.{◌≡◌, refl, arith, rules}
use Rattle.loom_engine.specs.Covering.Kept.{beside}
use Rattle.loom.proofs.ModelLemmas.Covering.{end_of, hands, no_body, stop_of}
use Rattle.loom.proofs.ModelLemmas.CoverSnapshots.{end_keeps, stop_keeps}
use Rattle.loom.proofs.ModelLemmas.Handing.{joined}
use Rattle.loom.proofs.model.cover.run.take_turns.Goals as goal

pub turns-init : goal.turns-init
turns-init g c = record { under_way = λ run z. z; kept = λ run z kept. kept; going = c.requires; same = (refl, refl, refl) }

pub turns-preserved-in-Reply-1 : goal.turns-preserved-in-Reply-1
turns-preserved-in-Reply-1 g c = record {
  under_way = λ run z.
      rw c.in-Ok-Reply.field-0-is at (c.in-Ok-Reply.ensures.event run
      (hands g.B.Body.next run c.turns.bodies.items c.turns.execution.run c.turns.path c.turns.thread c.turns.reply (beside c.args.known.now c.turns.states) (c.turns.invariant.under_way run z) c.index_mut-body.result.now c.resume.new.self
      c.in_ok-op.op (record { within = omega (arith, c.turns.bodies.ok.0); at = c.index_mut-body.ensures.value; step = c.in_ok-op.ensures })));
  kept = λ run z kept.
      c.in-Ok-Reply.ensures.kept run
      (hands g.B.Body.next run c.turns.bodies.items c.turns.execution.run c.turns.path c.turns.thread c.turns.reply (beside c.args.known.now c.turns.states) (c.turns.invariant.under_way run z) c.index_mut-body.result.now c.resume.new.self
      c.in_ok-op.op (record { within = omega (arith, c.turns.bodies.ok.0); at = c.index_mut-body.ensures.value; step = c.in_ok-op.ensures })) (c.turns.invariant.kept run z kept);
  going = rw c.in-Ok-Reply.field-0-is at c.in-Ok-Reply.ensures.open;
  same = joined c.args.path.now c.turns.path c.submit.new.path c.turns.invariant.same c.submit.ensures.same;
}

pub turns-preserved : goal.turns-preserved
turns-preserved g c = record {
  under_way = λ run z.
      rw c.in-Ok-Start.field-0-is at (c.in-Ok-Start.ensures.event run
      (hands g.B.Body.next run c.turns.bodies.items c.turns.execution.run c.turns.path c.turns.thread c.turns.reply (beside c.args.known.now c.turns.states) (c.turns.invariant.under_way run z) c.index_mut-body.result.now c.resume.new.self
      c.in_ok-op.op (record { within = omega (arith, c.turns.bodies.ok.0); at = c.index_mut-body.ensures.value; step = c.in_ok-op.ensures })));
  kept = λ run z kept.
      c.in-Ok-Start.ensures.kept run
      (hands g.B.Body.next run c.turns.bodies.items c.turns.execution.run c.turns.path c.turns.thread c.turns.reply (beside c.args.known.now c.turns.states) (c.turns.invariant.under_way run z) c.index_mut-body.result.now c.resume.new.self
      c.in_ok-op.op (record { within = omega (arith, c.turns.bodies.ok.0); at = c.index_mut-body.ensures.value; step = c.in_ok-op.ensures })) (c.turns.invariant.kept run z kept);
  going = rw c.in-Ok-Start.field-0-is at c.in-Ok-Start.ensures.open;
  same = joined c.args.path.now c.turns.path c.submit.new.path c.turns.invariant.same c.submit.ensures.same;
}

pub returns-then-place-len-clause-along : goal.returns-then-place-len-clause-along
returns-then-place-len-clause-along g c = λ run z.
    stop_of g.B.Body.next run c.failed.result c.stopped.result c.turns.bodies.items c.turns.execution.run c.turns.path (beside c.args.known.now c.turns.states) c.stopped.ensures
    (no_body g.B.Body.next run c.turns.bodies.items c.turns.execution.run c.turns.path c.turns.thread c.turns.reply (beside c.args.known.now c.turns.states) (c.turns.invariant.under_way run z) (omega (arith, c.turns.bodies.ok.0))
    c.failed.result c.failed.ensures c.turns.bodies.items c.turns.execution.run)

pub returns-in_default-clause-along : goal.returns-in_default-clause-along
returns-in_default-clause-along g c = λ run z.
    let same : c.in_default-1.answer ≡ c.submit.result = search rules in
    end_of g.B.Body.next run c.submit.result c.ended.result c.submit.new.bodies.items c.submit.new.execution.run c.submit.new.path (beside c.args.known.now c.submit.new.states) (rw same at c.ended.ensures)
    (c.submit.ensures.event run
    (hands g.B.Body.next run c.turns.bodies.items c.turns.execution.run c.turns.path c.turns.thread c.turns.reply (beside c.args.known.now c.turns.states) (c.turns.invariant.under_way run z) c.index_mut-body.result.now c.resume.new.self
    c.in_ok-op.op (record { within = omega (arith, c.turns.bodies.ok.0); at = c.index_mut-body.ensures.value; step = c.in_ok-op.ensures })))

pub returns-then-place-len-clause-kept : goal.returns-then-place-len-clause-kept
returns-then-place-len-clause-kept g c = λ run z kept. stop_keeps g.B.Body.next run c.failed.result c.stopped.result c.turns.path c.turns.snapshots c.stopped.ensures

pub returns-in_default-clause-kept : goal.returns-in_default-clause-kept
returns-in_default-clause-kept g c = λ run z kept.
    let same : c.in_default-1.answer ≡ c.submit.result = search rules in
    end_keeps g.B.Body.next run c.submit.result c.ended.result c.submit.new.path c.submit.new.snapshots (rw same at c.ended.ensures)
    (c.submit.ensures.kept run
    (hands g.B.Body.next run c.turns.bodies.items c.turns.execution.run c.turns.path c.turns.thread c.turns.reply (beside c.args.known.now c.turns.states) (c.turns.invariant.under_way run z) c.index_mut-body.result.now c.resume.new.self
    c.in_ok-op.op (record { within = omega (arith, c.turns.bodies.ok.0); at = c.index_mut-body.ensures.value; step = c.in_ok-op.ensures })) (c.turns.invariant.kept run z kept))
