use Rattle.loom_objects.proofs.Dependence.Counts.{opening-kept}
use Rattle.loom_objects.proofs.rt.dependence.Dependence.restart.Goals as goal

pub returns : goal.returns
returns c = rw (c.in_ok-push.ensures.ok, c.clear.ensures, c.clear-2.ensures, c.new.ensures) opening-kept
