use Rattle.loom_views.proofs.Atomic.SomeReadable.{some-readable}
use Rattle.loom_views.proofs.laws.some_slot_is_readable.Goals as goal

pub returns : goal.returns
returns c = some-readable
