use Rattle.loom_engine.proofs.Walk.EveryRun.{every_run_law}
use Rattle.loom_engine.proofs.laws.walk.every_run.Goals as goal

pub returns : goal.returns
returns c = every_run_law
