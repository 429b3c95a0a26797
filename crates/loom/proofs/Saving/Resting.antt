-- Nodes that are at rest where a walk finds them.
use Rattle.std.proofs.Common.{List, [], ◌∷◌, refl, ◌∙◌}
use Rattle.loom_engine.specs.Walk.Path.{Stored, node_at}
use Rattle.loom_engine.specs.Trees.Resuming.{AreAtRest, HasDefaults}
use Rattle.loom_engine.proofs.Walk.Lists.{node_on}
use Rattle.loom_engine.specs.Path.WellFormed.{AreAtRest as AllAtRest}

-- each of a list is as what is at a place of it
pub all_resting : (p : List Stored) → AreAtRest p → HasDefaults p → AllAtRest p
unfolding node_at
all_resting [] rest defaults = tt
all_resting (n ∷ p) rest defaults = (
  rest [] n refl,
  defaults [] n refl,
  all_resting p (λ before m h. rest (n.present ∷ before) m (node_on n p n.present before refl ∙ h))
      (λ before m h. defaults (n.present ∷ before) m (node_on n p n.present before refl ∙ h)),
)
