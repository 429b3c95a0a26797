use Rattle.loom_views.proofs.Atomic.Table.Spawned.{opening-shown}
use Rattle.loom_views.proofs.rt.views.Views.new.Goals as goal

pub returns : goal.returns
returns c = rw (c.new.ensures, c.new-2.ensures, c.new-3.ensures, c.new-4.ensures) opening-shown
