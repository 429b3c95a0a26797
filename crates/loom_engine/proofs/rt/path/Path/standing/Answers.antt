use Rattle.std.proofs.Common.{subst}
use Rattle.loom_engine.specs.Path.Route.{Route}
use Rattle.loom_engine.specs.Path.Tallies.{IsTally}
use Rattle.loom_engine.proofs.rt.path.Path.standing.Goals as goal

pub returns-clause-tally : goal.returns-clause-tally
returns-clause-tally c = subst (λ (r : Route). IsTally r.nodes r.position c.self.inside.tally) c.self.view_is c.self.invariant.4
