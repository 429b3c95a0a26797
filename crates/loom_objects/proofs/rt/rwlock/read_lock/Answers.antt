use Rattle.std.proofs.Common.{rules}
use Rattle.loom_objects.proofs.rt.rwlock.read_lock.Goals as goal

pub returns-clause-does : goal.returns-clause-does
returns-clause-does g c = λ p left shown. search (c.guard.ensures p left shown, rules)
