use Rattle.std.proofs.Common.{rules}
use Rattle.loom_objects.proofs.rt.mutex.try_lock.Goals as goal

pub returns : goal.returns
returns g c = λ p left shown. search (c.lock.ensures p left shown, rules)

pub returns-then-is_some-2 : goal.returns-then-is_some-2
returns-then-is_some-2 g c = search rules
