use Rattle.std.proofs.Common.{refl, rules}
use Rattle.loom_objects.specs.Rules.Notify.{wakes_early}
use Rattle.loom_objects.proofs.Scene.Showing.{keeps}
use Rattle.loom_objects.proofs.rt.notify.wake_early.Goals as goal

pub returns : goal.returns
returns g c = keeps (wakes_early c.args.number) _ _ _ refl (λ p left. search rules)
