use Rattle.loom_text.specs.Run.States.{tallied}
use Rattle.loom_text.proofs.CoverLemmas.{covering_from}
use Rattle.loom_text.proofs.run.cover.cover.Goals as goal

pub returns : goal.returns
returns g c = covering_from c.new-tally.result c.cover_with.new.visitor (λ t. tallied t.test.now t.layout.now t.counts.states.items t.counts.positive t.counts.negative) _ _ _ _ _ _ (g.C.Clock.answered c.cover_with.new.clock) _
    c.new-tally.ensures (λ text gave. gave) c.in_ok-covered.ensures.covers c.into_counts.ensures.states c.into_counts.ensures.positive c.into_counts.ensures.negative
