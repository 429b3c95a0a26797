use Rattle.std.proofs.Common.{rules}
use Rattle.loom_objects.proofs.rt.condvar.fall_asleep.Goals as goal

pub returns-in_err-set_free : goal.returns-in_err-set_free
returns-in_err-set_free g c = λ p left shown. search (c.set_free.ensures p left shown, rules)

pub returns : goal.returns
returns g c = λ p left shown. search (c.set_free.ensures p left shown, rules)
