use Rattle.std.proofs.Common.{◌∙◌, ap}
use Rattle.loom_engine.specs.Path.Route.{Route, trail}
use Rattle.loom_engine.specs.Trees.Drive.{passes_of}
use Rattle.loom_engine.specs.Trees.Meeting.{count}
use Rattle.loom_engine.proofs.rt.path.Path.preemptions.Goals as goal

pub returns : goal.returns
returns c = c.self.invariant.4.0 ∙ ap (λ (r : Route). count (passes_of (trail r))) c.self.view_is
