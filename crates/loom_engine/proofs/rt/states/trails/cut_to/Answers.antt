use Rattle.std.proofs.Common.{arith}
use Rattle.loom_engine.proofs.Covering.Trails.{cutting_ends, cutting_on, cutting_starts}
use Rattle.loom_engine.proofs.rt.states.trails.cut_to.Goals as goal

pub back-init : goal.back-init
back-init c = cutting_starts c.args.steps.now c.args.lead c.args.len c.requires.lead c.requires.within

pub back-preserved : goal.back-preserved
back-preserved c = cutting_on c.args.steps.now c.args.lead c.args.len c.back.at c.last_of-last.result c.back.invariant c.last_of-last.ensures c.back-test.true

pub back-smaller : goal.back-smaller
back-smaller c = omega (arith, c.last_of-last.ensures.shorter)

pub returns : goal.returns
returns c = cutting_ends c.args.steps.now c.args.lead c.args.len c.back.at c.back.invariant c.back-test.false
