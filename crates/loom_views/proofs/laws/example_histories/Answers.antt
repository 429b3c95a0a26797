use Rattle.loom_views.proofs.Atomic.Rows.{examples}
use Rattle.loom_views.proofs.laws.example_histories.Goals as goal

pub returns : goal.returns
returns c = examples
