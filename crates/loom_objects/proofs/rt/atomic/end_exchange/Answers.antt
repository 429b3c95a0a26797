use Rattle.loom_objects.proofs.rt.atomic.end_exchange.Goals as goal

pub returns-clause-views : goal.returns-clause-views
returns-clause-views g c = c.update_fail.ensures.views

pub returns-clause-rest : goal.returns-clause-rest
returns-clause-rest g c = c.update_fail.ensures.rest
