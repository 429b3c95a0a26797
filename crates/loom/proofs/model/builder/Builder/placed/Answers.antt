use Rattle.std.proofs.Common.{ap}
use Rattle.loom_engine.specs.Path.Route.{Route}
use Rattle.loom.proofs.model.builder.Builder.placed.Goals as goal

pub run_once-requires-clause-starts : goal.run_once-requires-clause-starts
run_once-requires-clause-starts g c =
    let is = c.in_ok-path.ensures in
    (ap (λ (p : Route). p.position) is, ap (λ (p : Route). p.explores) is, ap (λ (p : Route). p.exploring) is)
