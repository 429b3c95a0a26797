use Rattle.std.proofs.Common.{refl}
use Rattle.loom_objects.proofs.rt.scene.Scene.restart.Goals as goal

pub returns-clause-opens : goal.returns-clause-opens
returns-clause-opens g c = λ points left. rw (c.only_main.ensures, c.clear.ensures, c.clear-2.ensures, c.no_yields-self-inside.ensures) refl
