use Rattle.loom.proofs.History.Turning.{turn_of}
use Rattle.loom.proofs.runner.history.last.is_turn_in.Goals as goal

pub returns-in-Some : goal.returns-in-Some
returns-in-Some g c = turn_of c.args.history.now c.in-Some.event.now c.args.thread c.is_turn.result c.in-Some.ensures.value c.is_turn.ensures
