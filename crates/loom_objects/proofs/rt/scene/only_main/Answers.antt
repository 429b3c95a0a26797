use Rattle.loom_objects.specs.World.{main_thread}
use Rattle.loom_objects.proofs.Scene.Lists.{first-set}
use Rattle.loom_objects.proofs.rt.scene.only_main.Goals as goal

pub returns : goal.returns
returns g c = rw (c.keep_first.ensures, c.restart.ensures) (first-set c.args.threads.now main_thread c.requires)
