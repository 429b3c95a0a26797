use Rattle.std.proofs.Common.{refl, rules}
use Rattle.loom_objects.specs.Rules.Mutex.{mutex_into_inner}
use Rattle.loom_objects.proofs.Scene.Showing.{keeps}
use Rattle.loom_objects.proofs.rt.mutex.mutex_into_inner.Goals as goal

pub returns : goal.returns
returns g c = keeps (mutex_into_inner c.args.number) _ _ _ refl (λ p left. search rules)
