use Rattle.loom_engine.proofs.rt.states.State.has_yields.Goals as goal

pub returns : goal.returns
returns g c = λ same. cc (c.are_yields_same.ensures same, c.kept_yields-yields.ensures, c.yields.ensures)
