use Rattle.std.proofs.Common.{rules}
use Rattle.loom.proofs.runner.history.adding.take_turn.Goals as goal

pub returns-in-Ok : goal.returns-in-Ok
returns-in-Ok g c = search rules
