use Rattle.std.proofs.Common.{◌∙◌}
use Rattle.std.proofs.Math.Logic.{∥∥₁_map}
use Rattle.loom.proofs.checkpoint.named.NamedFileCheckpointStore.load.Goals as goal

pub invariant_of-self : goal.invariant_of-self
invariant_of-self g c = record {
  named = c.load.ensures.same ∙ c.args.self.now.named;
  others = ∥∥₁_map c.args.self.now.others (λ kept third one two text held. c.load.ensures.files third text (kept third one two text held));
}
