use Rattle.loom_views.proofs.Atomic.TableLaws.Offered.{updates_read_kept_stores_law}
use Rattle.loom_views.proofs.laws.updates_read_kept_stores.Goals as goal

pub returns : goal.returns
returns c = updates_read_kept_stores_law
