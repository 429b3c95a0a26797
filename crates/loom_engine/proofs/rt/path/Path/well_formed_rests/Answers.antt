use Rattle.std.specs.Prelude.{◌↔◌}
use Rattle.std.proofs.Common.{subst}
use Rattle.loom_engine.specs.Path.Route.{Route, stored}
use Rattle.loom_engine.specs.Path.WellFormed.{AreWellFormed, AreAtRest}
use Rattle.loom_engine.proofs.Path.WellFormed.{formed_at_rest}
use Rattle.loom_engine.proofs.rt.path.Path.well_formed_rests.Goals as goal

pub returns : goal.returns
returns c = subst (λ (r : Route). AreWellFormed r.nodes ↔ AreAtRest (stored r.nodes)) c.self.view_is (formed_at_rest c.self.inside.nodes.list c.self.invariant.2)
