use Rattle.std.proofs.Common.{◌<◌, sym, arith}
use Rattle.loom_engine.proofs.Covering.Trails.{front_begins, front_refused, front_same}
use Rattle.loom_engine.proofs.rt.states.trails.is_front.Goals as goal

pub returns-then-other-one : goal.returns-then-other-one
returns-then-other-one c =
    let less : c.args.other.len < c.args.one.len = omega arith in
    (λ t. absurd (cc t), λ b. absurd (front_refused c.args.steps.now c.args.one c.args.other c.requires.one c.requires.other less b))

pub are_equal-requires-clause-other : goal.are_equal-requires-clause-other
are_equal-requires-clause-other c = c.cut_to-cut.ensures.is_lead

pub are_equal-requires-clause-same : goal.are_equal-requires-clause-same
are_equal-requires-clause-same c = sym c.cut_to-cut.ensures.counted

pub returns : goal.returns
returns c =
    (λ t. front_begins c.args.steps.now c.args.one c.args.other c.requires.one c.cut_to-cut.result c.cut_to-cut.ensures (c.are_equal.ensures.0 t), λ b. c.are_equal.ensures.1 (front_same c.args.steps.now c.args.one c.args.other c.requires.one c.cut_to-cut.result c.cut_to-cut.ensures b))
