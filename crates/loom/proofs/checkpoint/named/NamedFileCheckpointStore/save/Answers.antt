use Rattle.std.proofs.Common.{◌∙◌}
use Rattle.std.proofs.Math.Logic.{∥∥₁_map}
use Rattle.loom.proofs.checkpoint.named.NamedFileCheckpointStore.save.Goals as goal

pub invariant_of-self : goal.invariant_of-self
invariant_of-self g c =
    let changes = rw c.args.self.now.named at c.save.ensures.others in
    record {
      named = c.save.ensures.same ∙ c.args.self.now.named;
      others = ∥∥₁_map c.args.self.now.others (λ kept third one two text held. changes third one two text (kept third one two text held));
    }
