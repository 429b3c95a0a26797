use Rattle.loom.proofs.RunnerLemmas.Recorded.{event_recorded, lent_stands}
use Rattle.loom.proofs.runner.recorded.adding.record_event.Goals as goal

pub returns-in-Ok-clause-same : goal.returns-in-Ok-clause-same
returns-in-Ok-clause-same g c = λ does words told z at asked none.
    let here = lent_stands c.deref.result.now c.args.places.now.items c.args.thread c.in-Some.place.now c.deref.ensures.value c.in-Some.ensures.lookup.3.0 c.in-Some.ensures.lookup.1 in
    event_recorded does words c.args.recording.now c.record_answer.new.recording c.args.places.now.items c.go_on.new.places.items told c.args.thread c.in-Some.place.now c.in-So.number c.args.reply.now
    c.args.event.now.op c.answer-answer.result.now z at here asked (rw c.in-So.is at c.in_ok-number.ensures.answered) c.answer-answer.ensures c.in-Ok.ensures
