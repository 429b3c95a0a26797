use Rattle.loom.proofs.runner.turns.Turns.failure.Goals as goal

pub returns : goal.returns
returns g c = rw (← c.self.view_is) c.failure.ensures
