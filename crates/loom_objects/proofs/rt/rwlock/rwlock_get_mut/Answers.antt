use Rattle.std.proofs.Common.{refl, rules}
use Rattle.loom_objects.specs.Rules.RwLock.{rwlock_get_mut}
use Rattle.loom_objects.proofs.Scene.Showing.{keeps}
use Rattle.loom_objects.proofs.rt.rwlock.rwlock_get_mut.Goals as goal

pub returns : goal.returns
returns g c = keeps (rwlock_get_mut c.args.number) _ _ _ refl (λ p left. search rules)
