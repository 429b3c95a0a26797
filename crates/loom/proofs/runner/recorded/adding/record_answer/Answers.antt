use Rattle.std.proofs.Common.{◌≡◌, ◌∙◌, ap, inl, refl, rules}
use Rattle.std.proofs.lemmas.Option.{slice_get_within}
use Rattle.loom.specs.declared.runner.recorded.recording.Answer.{Answer}
use Rattle.loom.proofs.runner.recorded.adding.record_answer.Goals as goal

pub returns-then-is_same_request-clause-answered : goal.returns-then-is_same_request-clause-answered
returns-then-is_same_request-clause-answered g c =
    let found = c.in-Some.ensures in
    let one : found.found ≡ c.answer.result.now = (let there = found.at in let here = c.answer.ensures in cc) in
    inl (found, ap (λ (a : Answer _). a.op) one ∙ c.is_same_request.ensures.0 (search rules), refl)

pub returns-else-is_same_request-clause-answered : goal.returns-else-is_same_request-clause-answered
returns-else-is_same_request-clause-answered g c = slice_get_within c.args.recording.now.answers c.in-Some.number c.in-Some.ensures.found c.in-Some.ensures.at
