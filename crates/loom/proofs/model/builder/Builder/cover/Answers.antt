use Rattle.loom.specs.declared.model.receiver.NoReceiver.{NoReceiver}
use Rattle.loom.proofs.ModelLemmas.CoverRounds.{alone}
use Rattle.loom.proofs.model.builder.Builder.cover.Goals as goal

pub returns-clause-covers : goal.returns-clause-covers
returns-clause-covers g c =
    alone {V = NoReceiver} (λ old choices value new. Unit {0}) (record {}) c.cover_runs.new.receiver c.args.self.now g.B.Body.next c.args.body.now _ _ c.cover_runs.result (λ text gave. gave) c.cover_runs.ensures.covers
