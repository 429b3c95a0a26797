use Rattle.loom.proofs.runner.history.History.value.Goals as goal

pub returns : goal.returns
returns g c = rw c.events.ensures at c.value_in.ensures
