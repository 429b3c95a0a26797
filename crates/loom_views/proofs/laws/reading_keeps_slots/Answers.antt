use Rattle.loom_views.proofs.Atomic.Table.Kept.{reading_keeps_slots_law}
use Rattle.loom_views.proofs.laws.reading_keeps_slots.Goals as goal

pub returns : goal.returns
returns c = reading_keeps_slots_law
