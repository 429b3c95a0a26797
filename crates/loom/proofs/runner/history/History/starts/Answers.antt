use Rattle.loom.proofs.runner.history.History.starts.Goals as goal

pub returns : goal.returns
returns g c = rw c.events.ensures at c.starts_in.ensures
