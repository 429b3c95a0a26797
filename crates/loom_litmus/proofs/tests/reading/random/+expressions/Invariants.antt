use Rattle.std.proofs.Common.{◌+◌, ◌*◌}
use Rattle.loom_litmus.proofs.tests.reading.random.+expressions.Given as goal

abbrev pub decreases-expression : goal.decreases-expression
decreases-expression l = 2 * l.depth

abbrev pub decreases-compare_exchange : goal.decreases-compare_exchange
decreases-compare_exchange l = 2 * l.depth + 1
