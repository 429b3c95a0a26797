use Rattle.loom.proofs.runner.turns.Turns.value.Goals as goal

pub returns : goal.returns
returns g c = rw (← c.self.view_is) c.value.ensures
