use Rattle.loom_text.proofs.ReadableLemmas.{question_readable}
use Rattle.loom_text.proofs.read.parser.Parser.test.Goals as goal

pub returns-clause-again : goal.returns-clause-again
returns-clause-again c =
    let named = rw (c.deref.ensures.value, c.deref-2.ensures.value) at c.in_ok-question.ensures.named in
    question_readable c.into_locations-locations.result.items c.in_ok-threads.threads.items c.in_ok-question.question c.into_locations-locations.ensures.differ c.in_ok-threads.ensures.registers named
