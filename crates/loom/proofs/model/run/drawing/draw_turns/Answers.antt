use Rattle.std.proofs.Common.{◌≡◌, [], refl, arith, rules}
use Rattle.std.specs.Prelude.{Ok}
use Rattle.loom_objects.specs.declared.operation.Turn.TheVariants as turn
use Rattle.loom_engine.specs.Path.Drawn.{led_by}
use Rattle.loom_engine.specs.Path.Route.{chosen}
use Rattle.loom_engine.proofs.Path.Drawing.{begins_all, begins_so}
use Rattle.loom.proofs.ExplainLemmas.Turning.{no_body}
use Rattle.loom.proofs.ModelLemmas.Drawing.{ended_drawn, leads_itself, no_body_drawn, one_drawn}
use Rattle.loom.proofs.ModelLemmas.Handing.{joined}
use Rattle.loom.proofs.model.run.drawing.draw_turns.Goals as goal

pub turns-init : goal.turns-init
turns-init g c = record { under_way = λ whole given b z. ([], z); going = c.requires.going; drawn = c.requires.drawn; same = (refl, refl, refl) }

pub turns-preserved-in-Reply-1 : goal.turns-preserved-in-Reply-1
turns-preserved-in-Reply-1 g c =
    let event = rw c.in-Ok-Reply.field-0-is at c.in-Ok-Reply.ensures.event in
    let over = rw c.in-Ok-Reply.field-0-is at c.in-Ok-Reply.ensures.over in
    record {
      under_way = λ whole given b z.
          one_drawn g.B.Body.next whole c.turns.bodies.items c.turns.execution.run c.turns.path c.turns.thread c.turns.reply c.submit.new.execution.run c.submit.new.path c.index_mut-body.result.now
          c.resume.new.self c.in_ok-op.op (Ok (turn.Reply c.in-Ok-Reply.next c.in-Ok-Reply.told)) (record { within = omega (arith, c.turns.bodies.ok.0); at = c.index_mut-body.ensures.value; step = c.in_ok-op.ensures })
          event c.in-Ok-Reply.ensures.steps c.submit.ensures.same given b
          (c.turns.invariant.under_way whole given (begins_so (chosen c.turns.path) (chosen c.submit.new.path) given c.submit.ensures.more b) z) c.submit.new.bodies.items c.in-Ok-Reply.ensures.child;
      going = over;
      drawn = c.submit.ensures.drawn;
      same = joined c.args.path.now c.turns.path c.submit.new.path c.turns.invariant.same c.submit.ensures.same;
    }

pub turns-preserved : goal.turns-preserved
turns-preserved g c =
    let event = rw c.in-Ok-Start.field-0-is at c.in-Ok-Start.ensures.event in
    let over = rw c.in-Ok-Start.field-0-is at c.in-Ok-Start.ensures.over in
    record {
      under_way = λ whole given b z.
          one_drawn g.B.Body.next whole c.turns.bodies.items c.turns.execution.run c.turns.path c.turns.thread c.turns.reply c.submit.new.execution.run c.submit.new.path c.index_mut-body.result.now
          c.resume.new.self c.in_ok-op.op (Ok (turn.Start c.in-Ok-Start.next)) (record { within = omega (arith, c.turns.bodies.ok.0); at = c.index_mut-body.ensures.value; step = c.in_ok-op.ensures })
          event c.in-Ok-Start.ensures.steps c.submit.ensures.same given b
          (c.turns.invariant.under_way whole given (begins_so (chosen c.turns.path) (chosen c.submit.new.path) given c.submit.ensures.more b) z) c.submit.new.bodies.items c.in-Ok-Start.ensures.child;
      going = over;
      drawn = c.submit.ensures.drawn;
      same = joined c.args.path.now c.turns.path c.submit.new.path c.turns.invariant.same c.submit.ensures.same;
    }

pub returns-then-place-len-clause-comes : goal.returns-then-place-len-clause-comes
returns-then-place-len-clause-comes g c = λ whole z.
    let given = chosen c.turns.path in
    no_body_drawn g.B.Body.next whole c.turns.bodies.items c.turns.execution.run c.turns.path c.turns.thread c.turns.reply given c.failed.result c.stopped.result c.stopped.ensures.ends
    (c.turns.invariant.under_way whole given (begins_all given given refl) z)
    (λ events under_way. rw c.failed.ensures (no_body g.B.Body.next whole events c.turns.bodies.items c.turns.execution.run (led_by given c.turns.path) c.turns.thread c.turns.reply (omega (arith, c.turns.bodies.ok.0)) under_way))

pub returns-in_default-clause-comes : goal.returns-in_default-clause-comes
returns-in_default-clause-comes g c = λ whole z.
    let given = chosen c.submit.new.path in
    let same : c.in_default-1.answer ≡ c.submit.result = search rules in
    let turned = one_drawn g.B.Body.next whole c.turns.bodies.items c.turns.execution.run c.turns.path c.turns.thread c.turns.reply c.submit.new.execution.run c.submit.new.path c.index_mut-body.result.now
    c.resume.new.self c.in_ok-op.op c.submit.result (record { within = omega (arith, c.turns.bodies.ok.0); at = c.index_mut-body.ensures.value; step = c.in_ok-op.ensures })
    c.submit.ensures.event c.submit.ensures.steps c.submit.ensures.same given (leads_itself c.submit.result c.submit.new.path)
    (c.turns.invariant.under_way whole given (begins_so (chosen c.turns.path) given given c.submit.ensures.more (begins_all given given refl)) z) c.submit.new.bodies.items c.submit.ensures.child in
    ended_drawn g.B.Body.next whole c.submit.new.bodies.items c.submit.new.execution.run (led_by given c.submit.new.path) c.submit.result c.ended.result (rw same at c.ended.ensures.ends) turned
