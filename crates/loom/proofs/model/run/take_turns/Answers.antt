use Rattle.std.proofs.Common.{◌≡◌, [], refl, arith, rules}
use Rattle.std.specs.Prelude.{Ok}
use Rattle.loom_objects.specs.declared.operation.Turn.TheVariants as turn
use Rattle.loom.proofs.ModelLemmas.Handing.{joined}
use Rattle.loom.proofs.ExplainLemmas.Turning.{ended_so, hears_one, no_body, stopped_so}
use Rattle.loom.proofs.model.run.take_turns.Goals as goal

pub turns-init : goal.turns-init
turns-init g c = record { under_way = λ whole z. ([], refl, z); going = c.requires; same = (refl, refl, refl) }

pub turns-preserved-in-Reply-1 : goal.turns-preserved-in-Reply-1
turns-preserved-in-Reply-1 g c =
    let event = rw c.in-Ok-Reply.field-0-is at c.in-Ok-Reply.ensures.event in
    let over = rw c.in-Ok-Reply.field-0-is at c.in-Ok-Reply.ensures.over in
    record {
      under_way = λ whole z.
          let so_far = c.turns.invariant.under_way whole z in
          hears_one g.L.Listener.takes_reply g.L.Listener.takes_op g.B.Body.next whole c.args.listener.now c.hear_op.new.self c.turns.listener so_far.0 c.turns.bodies.items c.turns.execution.run
          c.submit.new.execution.run c.turns.path c.submit.new.path c.turns.thread c.turns.reply c.index_mut-body.result.now c.resume.new.self c.in_ok-op.op (Ok (turn.Reply c.in-Ok-Reply.next c.in-Ok-Reply.told))
          (record { within = omega (arith, c.turns.bodies.ok.0); at = c.index_mut-body.ensures.value; step = c.in_ok-op.ensures })
          (c.hear_reply.new.self, c.in_default.ensures, rw c.position.ensures at c.in_default-hear_op.ensures) event c.in-Ok-Reply.ensures.steps c.submit.ensures.same.0 so_far.1 so_far.2 c.submit.new.bodies.items c.in-Ok-Reply.ensures.child;
      going = over;
      same = joined c.args.path.now c.turns.path c.submit.new.path c.turns.invariant.same c.submit.ensures.same;
    }

pub turns-preserved : goal.turns-preserved
turns-preserved g c =
    let event = rw c.in-Ok-Start.field-0-is at c.in-Ok-Start.ensures.event in
    let over = rw c.in-Ok-Start.field-0-is at c.in-Ok-Start.ensures.over in
    record {
      under_way = λ whole z.
          let so_far = c.turns.invariant.under_way whole z in
          hears_one g.L.Listener.takes_reply g.L.Listener.takes_op g.B.Body.next whole c.args.listener.now c.hear_op.new.self c.turns.listener so_far.0 c.turns.bodies.items c.turns.execution.run
          c.submit.new.execution.run c.turns.path c.submit.new.path c.turns.thread c.turns.reply c.index_mut-body.result.now c.resume.new.self c.in_ok-op.op (Ok (turn.Start c.in-Ok-Start.next))
          (record { within = omega (arith, c.turns.bodies.ok.0); at = c.index_mut-body.ensures.value; step = c.in_ok-op.ensures })
          (c.hear_reply.new.self, c.in_default.ensures, rw c.position.ensures at c.in_default-hear_op.ensures) event c.in-Ok-Start.ensures.steps c.submit.ensures.same.0 so_far.1 so_far.2 c.submit.new.bodies.items c.in-Ok-Start.ensures.child;
      going = over;
      same = joined c.args.path.now c.turns.path c.submit.new.path c.turns.invariant.same c.submit.ensures.same;
    }

pub returns-then-place-len-clause-heard : goal.returns-then-place-len-clause-heard
returns-then-place-len-clause-heard g c = λ whole z.
    let so_far = c.turns.invariant.under_way whole z in
    stopped_so g.L.Listener.takes_reply g.L.Listener.takes_op g.B.Body.next whole c.args.listener.now c.turns.listener so_far.0
    c.turns.bodies.items c.turns.execution.run c.turns.path c.failed.result c.stopped.result c.stopped.ensures.ends so_far.1
    (rw c.failed.ensures (no_body g.B.Body.next whole so_far.0 c.turns.bodies.items c.turns.execution.run c.turns.path c.turns.thread c.turns.reply (omega (arith, c.turns.bodies.ok.0)) so_far.2))

pub returns-in_default-submit-clause-heard : goal.returns-in_default-submit-clause-heard
returns-in_default-submit-clause-heard g c = λ whole z.
    let so_far = c.turns.invariant.under_way whole z in
    let same : c.in_default-submit-1.answer ≡ c.submit.result = search rules in
    let turned = hears_one g.L.Listener.takes_reply g.L.Listener.takes_op g.B.Body.next whole c.args.listener.now c.hear_op.new.self c.turns.listener so_far.0 c.turns.bodies.items c.turns.execution.run
    c.submit.new.execution.run c.turns.path c.submit.new.path c.turns.thread c.turns.reply c.index_mut-body.result.now c.resume.new.self c.in_ok-op.op c.submit.result
    (record { within = omega (arith, c.turns.bodies.ok.0); at = c.index_mut-body.ensures.value; step = c.in_ok-op.ensures })
    (c.hear_reply.new.self, c.in_default.ensures, rw c.position.ensures at c.in_default-hear_op.ensures) c.submit.ensures.event c.submit.ensures.steps c.submit.ensures.same.0 so_far.1 so_far.2 c.submit.new.bodies.items c.submit.ensures.child in
    ended_so g.L.Listener.takes_reply g.L.Listener.takes_op g.B.Body.next whole c.args.listener.now c.hear_op.new.self
    c.submit.new.bodies.items c.submit.new.execution.run c.submit.new.path c.submit.result c.ended.result (rw same at c.ended.ensures.ends) turned
