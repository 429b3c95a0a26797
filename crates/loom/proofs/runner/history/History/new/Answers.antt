use Rattle.loom.proofs.History.Counting.{counted_first}
use Rattle.loom.proofs.runner.history.History.new.Goals as goal

pub invariant_of-result : goal.invariant_of-result
invariant_of-result g c = counted_first _ _ c.in_ok-counts.ensures c.new.ensures.items
