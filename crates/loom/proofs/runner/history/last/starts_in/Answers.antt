use Rattle.loom.proofs.History.Turning.{start_of}
use Rattle.loom.proofs.runner.history.last.starts_in.Goals as goal

pub returns-in-Some : goal.returns-in-Some
returns-in-Some g c = start_of c.args.history.now c.in-Some.event.now c.args.thread c.is_start.result c.in-Some.ensures.value c.is_start.ensures
