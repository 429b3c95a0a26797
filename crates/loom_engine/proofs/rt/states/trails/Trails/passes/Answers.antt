use Rattle.std.proofs.Common.{arith}
use Rattle.loom_engine.proofs.Covering.Trails.{begins_so, none_passed, passes_so}
use Rattle.loom_engine.proofs.rt.states.trails.Trails.passes.Goals as goal

pub returns-then-number-len : goal.returns-then-number-len
returns-then-number-len c =
    (λ t. absurd (cc t), λ p. absurd (none_passed c.self.inside.steps c.self.inside.leads c.args.self.now c.args.made.now c.args.number c.self.view_is (omega (arith, c.len.ensures)) p))

pub begins_with-requires-clause-lead : goal.begins_with-requires-clause-lead
begins_with-requires-clause-lead c = c.self.invariant.each c.args.number c.at-lead.result.now c.at-lead.ensures

pub returns : goal.returns
returns c =
    let steps = c.self.inside.steps in
    let leads = c.self.inside.leads in
    let lead = c.at-lead.result.now in
    (λ t. passes_so steps leads c.args.self.now c.self.view_is c.args.number lead c.at-lead.ensures c.args.made.now (c.begins_with.ensures.0 t), λ p. c.begins_with.ensures.1 (begins_so steps leads c.args.self.now c.self.view_is c.args.number lead c.at-lead.ensures c.args.made.now p))
