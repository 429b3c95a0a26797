use Rattle.loom_text.specs.Run.States.{tallied}
use Rattle.loom_text.proofs.CheckLemmas.{outcome_from}
use Rattle.loom_text.proofs.run.check.check.Goals as goal

pub returns : goal.returns
returns g c = outcome_from c.new-tally.result c.check_with.new.visitor (λ t. tallied t.test.now t.layout.now t.counts.states.items t.counts.positive t.counts.negative) _ _ _ _ _ _ _ _
    c.new-tally.ensures (λ text h. h) c.in_ok-report.ensures.reports c.into_counts.ensures.states c.into_counts.ensures.positive c.into_counts.ensures.negative
