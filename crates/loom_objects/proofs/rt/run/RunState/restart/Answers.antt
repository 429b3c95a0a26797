use Rattle.std.proofs.Common.{sym}
use Rattle.loom_views.specs.Views.{opening as first_points}
use Rattle.loom_objects.proofs.rt.run.RunState.restart.Goals as goal

pub returns-clause-opens : goal.returns-clause-opens
returns-clause-opens g c = record { views = c.restart.ensures.views; rest = sym (c.restart.ensures.opens first_points c.args.max_steps) }
