use Rattle.std.proofs.Common.{[], ◌∷◌}
use Rattle.std.proofs.lemmas.Slice.{pushed}
use Rattle.loom.proofs.runner.history.first_counts.Goals as goal

pub returns : goal.returns
returns c = pushed {now = c.push.new.self.items} (0 ∷ []) c.new-counts.ensures.items c.in_ok-push.was c.push.ensures.items
