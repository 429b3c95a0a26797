use Rattle.loom_views.proofs.Atomic.TableLaws.Offered.{loads_read_kept_stores_law}
use Rattle.loom_views.proofs.laws.loads_read_kept_stores.Goals as goal

pub returns : goal.returns
returns c = loads_read_kept_stores_law
