use Rattle.std.proofs.Common.{◌≡◌, ◌∙◌, ap, refl, rules}
use Rattle.std.specs.Prelude.{Ok}
use Rattle.loom_objects.specs.declared.operation.Turn.TheVariants as turn
use Rattle.loom.specs.Runner.Recorded.{by_function}
use Rattle.loom.specs.Runner.Recording.{all_told}
use Rattle.loom.proofs.ModelLemmas.Handing.{joined}
use Rattle.loom.proofs.RunnerLemmas.RecordedCover.{comes_on, known_end_of}
use Rattle.loom.proofs.runner.recorded.covering.run.take_turns.Goals as goal

pub turns-init : goal.turns-init
turns-init g c = record { under_way = λ does words told run z at way. (told, at, way); going = c.requires; same = (refl, refl, refl) }

pub turns-preserved-in-Reply-1 : goal.turns-preserved-in-Reply-1
turns-preserved-in-Reply-1 g c =
    let is : c.submit.result ≡ Ok (turn.Reply c.in-Ok-Reply.next c.in-Ok-Reply.told) = c.in-Ok-Reply.is ∙ ap Ok c.in-Ok-Reply.field-0-is in
    record {
      under_way = λ does words told run z at way.
          let so_far = c.turns.invariant.under_way does words told run z at way in
          let hands = rw c.in-Some.is at c.in_ok-op.ensures does words so_far.0 z so_far.1 in
          let came = comes_on does words so_far.0 c.turns.thread c.turns.reply c.in-Some.op c.next_op-known.new.places.items hands run c.turns.execution.run c.submit.new.execution.run c.turns.path c.submit.new.path
          (all_told words c.turns.states) (all_told words c.submit.new.states) c.submit.result so_far.2 (rw c.deref.ensures.value at (c.submit.ensures.event does words)) in
          (_, hands.goes, rw is at came);
      going = rw is at c.submit.ensures.open;
      same = joined c.args.path.now c.turns.path c.submit.new.path c.turns.invariant.same c.submit.ensures.same;
    }

pub turns-preserved : goal.turns-preserved
turns-preserved g c =
    let is : c.submit.result ≡ Ok (turn.Start c.in-Ok-Start.next) = c.in-Ok-Start.is ∙ ap Ok c.in-Ok-Start.field-0-is in
    record {
      under_way = λ does words told run z at way.
          let so_far = c.turns.invariant.under_way does words told run z at way in
          let hands = rw c.in-Some.is at c.in_ok-op.ensures does words so_far.0 z so_far.1 in
          let came = comes_on does words so_far.0 c.turns.thread c.turns.reply c.in-Some.op c.next_op-known.new.places.items hands run c.turns.execution.run c.submit.new.execution.run c.turns.path c.submit.new.path
          (all_told words c.turns.states) (all_told words c.submit.new.states) c.submit.result so_far.2 (rw c.deref.ensures.value at (c.submit.ensures.event does words)) in
          (_, hands.goes, rw is at came);
      going = rw is at c.submit.ensures.open;
      same = joined c.args.path.now c.turns.path c.submit.new.path c.turns.invariant.same c.submit.ensures.same;
    }

pub returns-in_default-submit-clause-along : goal.returns-in_default-submit-clause-along
returns-in_default-submit-clause-along g c = λ does words told run z at way.
    let so_far = c.turns.invariant.under_way does words told run z at way in
    let hands = rw c.in-Some.is at c.in_ok-op.ensures does words so_far.0 z so_far.1 in
    let same : c.in_default-submit-1.answer ≡ c.submit.result = search rules in
    let came = comes_on does words so_far.0 c.turns.thread c.turns.reply c.in-Some.op c.next_op-known.new.places.items hands run c.turns.execution.run c.submit.new.execution.run c.turns.path c.submit.new.path
    (all_told words c.turns.states) (all_told words c.submit.new.states) c.submit.result so_far.2 (rw c.deref.ensures.value at (c.submit.ensures.event does words)) in
    known_end_of (by_function does) run c.submit.result c.end_known.result _ c.submit.new.execution.run c.submit.new.path (all_told words c.submit.new.states) (rw same at c.end_known.ensures) came
