use Rattle.std.proofs.Common.{◌≡◌, ◌∙◌, [], ap, refl, rules}
use Rattle.std.specs.Prelude.{Ok}
use Rattle.loom_objects.specs.declared.operation.Turn.TheVariants as turn
use Rattle.loom.specs.Runner.Histories.{moment}
use Rattle.loom.proofs.ModelLemmas.Handing.{before_the_end, joined}
use Rattle.loom.proofs.RunnerLemmas.Playing.{known_ends, known_led, led_on, played_on}
use Rattle.loom.proofs.runner.recorded.playing.take_turns.Goals as goal

pub turns-init : goal.turns-init
turns-init g c = record {
  under_way = λ does words told whole z at way. ([], told, at, way);
  led = ([], refl);
  going = c.requires;
  same = (refl, refl, refl);
}

pub turns-preserved-in-Reply-1 : goal.turns-preserved-in-Reply-1
turns-preserved-in-Reply-1 g c =
    let is : c.submit.result ≡ Ok (turn.Reply c.in-Ok-Reply.next c.in-Ok-Reply.told) = c.in-Ok-Reply.is ∙ ap Ok c.in-Ok-Reply.field-0-is in
    let event = before_the_end c.turns.execution c.submit.new.self c.in-Some.op c.turns.path c.submit.new.path c.submit.result c.turns.invariant.going c.submit.ensures.event in
    record {
      under_way = λ does words told whole z at way.
          let so_far = c.turns.invariant.under_way does words told whole z at way in
          let hands = rw c.in-Some.is at c.in_ok-op.ensures does words so_far.1 z so_far.2 in
          let played = played_on does whole words so_far.1 c.turns.thread c.turns.reply c.in-Some.op c.next_op-known.new.places.items hands so_far.0 c.turns.execution.run c.submit.new.self.run
          c.turns.path c.submit.new.path c.submit.result event.0 c.submit.ensures.steps c.submit.ensures.same.0 so_far.3 in
          (_, _, hands.goes, rw is at played);
      led = (
        _,
        led_on (moment c.args.execution.now c.args.path.now) c.turns.invariant.led.0 c.turns.execution c.submit.new.self c.in-Some.op c.turns.path c.submit.new.path
            (turn.Reply c.in-Ok-Reply.next c.in-Ok-Reply.told) c.turns.invariant.led.1 c.turns.invariant.going (rw is at c.submit.ensures.event) c.submit.ensures.same,
      );
      going = rw is at event.1;
      same = joined c.args.path.now c.turns.path c.submit.new.path c.turns.invariant.same c.submit.ensures.same;
    }

pub turns-preserved : goal.turns-preserved
turns-preserved g c =
    let is : c.submit.result ≡ Ok (turn.Start c.in-Ok-Start.next) = c.in-Ok-Start.is ∙ ap Ok c.in-Ok-Start.field-0-is in
    let event = before_the_end c.turns.execution c.submit.new.self c.in-Some.op c.turns.path c.submit.new.path c.submit.result c.turns.invariant.going c.submit.ensures.event in
    record {
      under_way = λ does words told whole z at way.
          let so_far = c.turns.invariant.under_way does words told whole z at way in
          let hands = rw c.in-Some.is at c.in_ok-op.ensures does words so_far.1 z so_far.2 in
          let played = played_on does whole words so_far.1 c.turns.thread c.turns.reply c.in-Some.op c.next_op-known.new.places.items hands so_far.0 c.turns.execution.run c.submit.new.self.run
          c.turns.path c.submit.new.path c.submit.result event.0 c.submit.ensures.steps c.submit.ensures.same.0 so_far.3 in
          (_, _, hands.goes, rw is at played);
      led = (
        _,
        led_on (moment c.args.execution.now c.args.path.now) c.turns.invariant.led.0 c.turns.execution c.submit.new.self c.in-Some.op c.turns.path c.submit.new.path
            (turn.Start c.in-Ok-Start.next) c.turns.invariant.led.1 c.turns.invariant.going (rw is at c.submit.ensures.event) c.submit.ensures.same,
      );
      going = rw is at event.1;
      same = joined c.args.path.now c.turns.path c.submit.new.path c.turns.invariant.same c.submit.ensures.same;
    }

pub returns-in_default-submit-clause-ends : goal.returns-in_default-submit-clause-ends
returns-in_default-submit-clause-ends g c = λ does words told whole z at way.
    let event = before_the_end c.turns.execution c.submit.new.self c.in-Some.op c.turns.path c.submit.new.path c.submit.result c.turns.invariant.going c.submit.ensures.event in
    let so_far = c.turns.invariant.under_way does words told whole z at way in
    let hands = rw c.in-Some.is at c.in_ok-op.ensures does words so_far.1 z so_far.2 in
    let same : c.in_default-submit-1.answer ≡ c.submit.result = search rules in
    let played = played_on does whole words so_far.1 c.turns.thread c.turns.reply c.in-Some.op c.next_op-known.new.places.items hands so_far.0 c.turns.execution.run c.submit.new.self.run
    c.turns.path c.submit.new.path c.submit.result event.0 c.submit.ensures.steps c.submit.ensures.same.0 so_far.3 in
    known_ends does whole _ _ c.submit.new.self.run c.submit.new.path c.submit.result c.ended.result (rw same at c.ended.ensures.ends) played

pub returns-in_default-submit-clause-history : goal.returns-in_default-submit-clause-history
returns-in_default-submit-clause-history g c =
    let same : c.in_default-submit-1.answer ≡ c.submit.result = search rules in
    known_led (moment c.args.execution.now c.args.path.now) c.turns.invariant.led.0 c.turns.execution c.submit.new.self c.in-Some.op c.turns.path c.submit.new.path c.submit.result c.ended.result
    c.turns.invariant.led.1 c.turns.invariant.going c.submit.ensures.event c.submit.ensures.same (rw same at c.ended.ensures.ends)
