use Rattle.loom.proofs.History.Counting.{counted_first}
use Rattle.loom.proofs.runner.history.History.exchange.Goals as goal

pub invariant_of-self : goal.invariant_of-self
invariant_of-self g c = rw c.replace.ensures.after (counted_first _ _ c.in_ok-counts.ensures c.clear.ensures.items)
