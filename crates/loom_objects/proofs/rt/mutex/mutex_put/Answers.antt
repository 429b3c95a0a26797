use Rattle.std.proofs.Common.{refl, rules}
use Rattle.loom_objects.specs.Rules.Mutex.{mutex_put}
use Rattle.loom_objects.proofs.Scene.Showing.{keeps}
use Rattle.loom_objects.proofs.rt.mutex.mutex_put.Goals as goal

pub returns : goal.returns
returns g c = keeps (mutex_put c.args.number c.args.value) _ _ _ refl (λ p left. search rules)
