use Rattle.loom.proofs.runner.checks.check_with.Goals as goal

pub returns-clause-alike : goal.returns-clause-alike
returns-clause-alike g c = c.check_lent_with.ensures.alike

pub returns-clause-changed : goal.returns-clause-changed
returns-clause-changed g c = c.check_lent_with.ensures.changed

pub returns-clause-errors : goal.returns-clause-errors
returns-clause-errors g c = c.check_lent_with.ensures.errors

pub returns-clause-left : goal.returns-clause-left
returns-clause-left g c = c.check_lent_with.ensures.left
