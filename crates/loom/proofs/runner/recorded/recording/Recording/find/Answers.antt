use Rattle.std.proofs.Common.{◌∙◌, ap, rules}
use Rattle.loom.specs.Runner.Recording.{Answers}
use Rattle.loom.proofs.RunnerLemmas.Recorded.{lent_stands}
use Rattle.loom.proofs.runner.recorded.recording.Recording.find.Goals as goal

pub returns-then-is_same_reply : goal.returns-then-is_same_reply
returns-then-is_same_reply g c = record {
  found = c.in_ok-answer.answer.now;
  at = lent_stands c.deref-in-loop.result.now c.args.self.now.answers c.in_ok-number.number c.in_ok-answer.answer.now (c.deref-in-loop.ensures.value ∙ ap (λ (r : Answers _). r.answers) c.self.view_is) c.in_ok-answer.ensures.lookup.3.0 c.in_ok-answer.ensures.lookup.1;
  from_so = c.if-answer-place.true;
  reply_so = c.is_same_reply.ensures.0 (search rules);
}
