use Rattle.loom_views.proofs.Atomic.Table.Spawned.{opening-shown}
use Rattle.loom_views.proofs.rt.views.Views.restart.Goals as goal

pub returns : goal.returns
returns c = rw (c.new-threads.ensures, c.clear.ensures, c.clear-2.ensures, c.new-self.ensures) opening-shown
