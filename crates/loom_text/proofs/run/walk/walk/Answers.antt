use Rattle.loom_text.specs.Run.States.{tallied}
use Rattle.loom_text.proofs.WalkLemmas.{seen_from}
use Rattle.loom_text.proofs.run.walk.walk.Goals as goal

pub returns : goal.returns
returns g c = seen_from c.new-tally.result c.walk.new.visitor (λ t. tallied t.test.now t.layout.now t.counts.states.items t.counts.positive t.counts.negative) _ _ _ _ c.args.walk (g.C.Clock.answered c.walk.new.clock) _
    c.new-tally.ensures c.in_ok-walked.ensures.walks c.into_counts.ensures.states c.into_counts.ensures.positive c.into_counts.ensures.negative
