use Rattle.std.proofs.Common.{◌∙◌, [], ◌∷◌, arith, sym}
use Rattle.loom.specs.Runner.Recorded.{begun_by, tells}
use Rattle.loom_engine.specs.Runs.Body.{with_child}
use Rattle.std.specs.Prelude.{slice_set}
use Rattle.loom.proofs.RunnerLemmas.Recorded.{does_rest, is_asked_first, main_alone}
use Rattle.loom.proofs.runner.recorded.adding.record_run.Goals as goal

pub loop-event-init : goal.loop-event-init
loop-event-init g c = record {
  within = omega arith;
  recorded = λ does words z done. (words, [] ∷ [], z, main_alone does words c.args.recording.now c.new-places.result.items c.push.new.self.items z c.in-Ok.ensures.items c.new-places.ensures.items, done);
}

pub overflow_sub-place : goal.overflow_sub-place
overflow_sub-place g c = c.loop-event.invariant.within

pub changed-requires : goal.changed-requires
changed-requires g c = omega (arith, c.loop-event.invariant.within, c.in-Some.ensures.cases.1)

pub returns-in_default-3-clause-recorded : goal.returns-in_default-3-clause-recorded
returns-in_default-3-clause-recorded g c = λ does words z done.
    let before = c.loop-event.invariant.recorded does words z done in
    let asked = is_asked_first does c.in-Some.event.now c.in-Some.others.now c.loop-event.rest.now before.1 c.loop-event.thread c.loop-event.reply c.in-Some.ensures.cases.0 before.4 in
    let more = c.in_ok-other.ensures.same does before.0 before.1 before.2 before.3 asked c.in_default-2.is in
    (more.0, more.1)

pub loop-event-preserved : goal.loop-event-preserved
loop-event-preserved g c = record {
  within = omega (arith, c.loop-event.invariant.within, c.in-Some.ensures.cases.1);
  recorded = λ does words z done.
      let before = c.loop-event.invariant.recorded does words z done in
      let asked = is_asked_first does c.in-Some.event.now c.in-Some.others.now c.loop-event.rest.now before.1 c.loop-event.thread c.loop-event.reply c.in-Some.ensures.cases.0 before.4 in
      let more = c.in_ok-other.ensures.same does before.0 before.1 before.2 before.3 asked c.in_default-2.is in
      let after = tells c.loop-event.reply ∷ more.2.word in (
        more.0,
        with_child (slice_set before.1 c.loop-event.thread after) (begun_by c.in-Some.event.now.op after),
        more.1,
        more.2.goes,
        does_rest does more.0 c.in-Some.event.now c.in-Some.others.now c.loop-event.rest.now before.1 c.loop-event.thread c.in-Some-3.next c.loop-event.reply c.in-Some-3.told
            c.record_event-recorded.new.places.items c.in-Some.ensures.cases.0 before.4 more.2 (sym c.in_ok-next.ensures.next ∙ c.in-Some-3.is),
      );
}

pub returns-clause-recorded : goal.returns-clause-recorded
returns-clause-recorded g c = λ does words z done.
    let before = c.loop-event.invariant.recorded does words z done in
    (before.0, before.2)
