use Rattle.loom.proofs.History.Turning.{next_by}
use Rattle.loom.proofs.runner.history.last.turn_by.Goals as goal

pub returns : goal.returns
returns g c = next_by c.args.history.now c.in_ok-event.event.now c.next_of.result c.in_ok-event.ensures.value c.next_of.ensures
