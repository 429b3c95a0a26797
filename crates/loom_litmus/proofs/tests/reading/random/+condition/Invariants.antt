use Rattle.loom_litmus.proofs.tests.reading.random.+condition.Given as goal

abbrev pub decreases-condition : goal.decreases-condition
decreases-condition l = l.depth
