use Rattle.loom_objects.proofs.rt.condvar.sleep.Goals as goal

pub returns : goal.returns
returns g c = c.rest.ensures
