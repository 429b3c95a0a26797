use Rattle.loom_litmus.proofs.tests.reading.random.+statements.Given as goal

abbrev pub decreases-statements : goal.decreases-statements
decreases-statements l = l.depth
