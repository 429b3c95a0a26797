use Rattle.std.proofs.Common.{◌≡◌, arith}
use Rattle.loom_engine.proofs.Covering.Trails.{sharing_on, sharing_starts, walking_ends}
use Rattle.loom_engine.proofs.rt.states.trails.shared.Goals as goal

pub back-init : goal.back-init
back-init c = sharing_starts c.args.steps.now c.args.made.now c.args.lead c.requires.lead

pub last_of-last-requires-clause-lead : goal.last_of-last-requires-clause-lead
last_of-last-requires-clause-lead c = c.back.invariant.walking.well

pub back-preserved : goal.back-preserved
back-preserved c =
    sharing_on c.args.steps.now c.args.made.now c.back.at c.back.found c.kept-next.result c.last_of-last.result c.has_at-stays.result c.back.invariant c.last_of-last.ensures c.has_at-stays.ensures.0 c.kept-next.ensures.found c.kept-next.ensures.before

pub back-smaller : goal.back-smaller
back-smaller c = omega (arith, c.last_of-last.ensures.shorter)

pub returns-clause-lead : goal.returns-clause-lead
returns-clause-lead c = c.back.invariant.kept

pub returns-clause-begins : goal.returns-clause-begins
returns-clause-begins c =
    let none : c.back.at.len ≡ 0 = omega (arith, c.back-test.false) in
    walking_ends c.args.steps.now c.args.made.now c.back.found c.back.at c.back.invariant.walking none
