use Rattle.loom_views.proofs.Atomic.Table.Kept.{offered_slots_are_kept_law}
use Rattle.loom_views.proofs.laws.offered_slots_are_kept.Goals as goal

pub returns : goal.returns
returns c = offered_slots_are_kept_law
