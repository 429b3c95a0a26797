use Rattle.std.proofs.Common.{refl, rules}
use Rattle.loom_objects.specs.Rules.Mutex.{mutex_get_mut}
use Rattle.loom_objects.proofs.Scene.Showing.{keeps}
use Rattle.loom_objects.proofs.rt.mutex.mutex_get_mut.Goals as goal

pub returns : goal.returns
returns g c = keeps (mutex_get_mut c.args.number) _ _ _ refl (λ p left. search rules)
