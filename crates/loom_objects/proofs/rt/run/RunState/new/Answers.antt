use Rattle.std.proofs.Common.{sym}
use Rattle.loom_views.specs.Views.{opening as first_points}
use Rattle.loom_objects.proofs.rt.run.RunState.new.Goals as goal

pub returns-clause-opens : goal.returns-clause-opens
returns-clause-opens g c = record { views = c.in_ok-new.ensures.views; rest = sym (c.in_ok-new.ensures.opens first_points c.args.max_steps) }
