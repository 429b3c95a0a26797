use Rattle.loom.proofs.runner.checks.check.Goals as goal

pub returns-clause-alike : goal.returns-clause-alike
returns-clause-alike g c = c.check_lent.ensures.alike

pub returns-clause-changed : goal.returns-clause-changed
returns-clause-changed g c = c.check_lent.ensures.changed

pub returns-clause-errors : goal.returns-clause-errors
returns-clause-errors g c = c.check_lent.ensures.errors
