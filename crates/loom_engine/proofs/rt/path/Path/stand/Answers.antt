use Rattle.std.proofs.Common.{◌≤◌, length, subst, sym}
use Rattle.loom_engine.specs.Path.Route.{Route}
use Rattle.loom_engine.specs.Path.Tallies.{IsTally}
use Rattle.loom_engine.proofs.rt.path.Path.stand.Goals as goal

pub invariant_of-self : goal.invariant_of-self
invariant_of-self c =
    let standing = c.args.standing.now in (
      subst (λ (r : Route). standing.position ≤ length r.nodes) (sym c.self.view_is) c.requires.within,
      c.self.invariant.1,
      c.self.invariant.2,
      c.self.invariant.3,
      subst (λ (r : Route). IsTally r.nodes standing.position standing.tally) (sym c.self.view_is) c.requires.tally,
    )
