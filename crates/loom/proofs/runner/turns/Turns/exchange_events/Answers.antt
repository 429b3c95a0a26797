use Rattle.loom.proofs.RunnerLemmas.Leading.{kept_spoiled}
use Rattle.loom.proofs.runner.turns.Turns.exchange_events.Goals as goal

pub invariant_of-self : goal.invariant_of-self
invariant_of-self g c = kept_spoiled _ _ _ _ _ _

pub returns-clause-events : goal.returns-clause-events
returns-clause-events g c = rw (← c.self.view_is) c.exchange.ensures.events
