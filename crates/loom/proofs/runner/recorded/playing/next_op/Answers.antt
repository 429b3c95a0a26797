use Rattle.std.proofs.Common.{subst, sym}
use Rattle.std.specs.Prelude.{⊤}
use Rattle.loom_objects.specs.declared.operation.Request.{Request}
use Rattle.loom.specs.Runner.Recording.{HandsOver}
use Rattle.loom.proofs.RunnerLemmas.Recorded.{hands_over_there, lent_stands}
use Rattle.loom.proofs.runner.recorded.playing.next_op.Goals as goal

pub returns : goal.returns
returns g c = λ does words told z at.
    let here = lent_stands c.deref.result.now c.args.places.now.items c.args.thread c.in-Some.place.now c.deref.ensures.value c.in-Some.ensures.lookup.3.0 c.in-Some.ensures.lookup.1 in
    subst (λ (o : Request _ ⊤). HandsOver does words told c.args.thread c.args.reply.now o c.go_on.new.places.items) (sym c.in_ok-copy_request.ensures)
    (hands_over_there does words c.args.recording.now c.args.places.now.items c.go_on.new.places.items told c.args.thread c.in-Some.place.now c.in-Some-find.number c.args.reply.now
    c.answer-answer.result.now z at here c.in-Some-find.ensures c.answer-answer.ensures c.in_ok-go_on.ensures)
