use Rattle.loom.proofs.runner.history.History.is_turn_of.Goals as goal

pub returns : goal.returns
returns g c = rw c.events.ensures at c.is_turn_in.ensures
