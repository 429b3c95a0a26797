use Rattle.loom_objects.proofs.Dependence.Counts.{opening-kept}
use Rattle.loom_objects.proofs.rt.dependence.Dependence.new.Goals as goal

pub returns : goal.returns
returns c = rw (c.in_ok-push.ensures.ok, c.new-threads.ensures, c.new.ensures, c.new-2.ensures) opening-kept
