use Rattle.std.proofs.Common.{refl, rules}
use Rattle.loom_objects.specs.Rules.RwLock.{rwlock_put}
use Rattle.loom_objects.proofs.Scene.Showing.{keeps}
use Rattle.loom_objects.proofs.rt.rwlock.rwlock_put.Goals as goal

pub returns : goal.returns
returns g c = keeps (rwlock_put c.args.number c.args.value) _ _ _ refl (λ p left. search rules)
