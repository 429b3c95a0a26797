use Rattle.std.proofs.Common.{refl}
use Rattle.loom_views.proofs.rt.atomic.State.ranked_head.Goals as goal

pub returns-clause-paired : goal.returns-clause-paired
returns-clause-paired c = λ more stores. record { loaded_at = c.in_ok-loaded_at.ensures; stored_at = c.in_ok-stored_at.ensures; unsync_loaded_at = c.in_ok-unsync_loaded_at.ensures; unsync_mut_at = c.in_ok-unsync_mut_at.ensures; is_mutating = refl; stores = stores; count = refl }
