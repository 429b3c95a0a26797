use Rattle.std.proofs.Common.{refl, rules}
use Rattle.loom_objects.specs.Rules.Alloc.{track_get_mut}
use Rattle.loom_objects.proofs.Scene.Showing.{keeps}
use Rattle.loom_objects.proofs.rt.alloc.track_get_mut.Goals as goal

pub returns : goal.returns
returns g c = keeps (track_get_mut c.args.number) _ _ _ refl (λ p left. search rules)
