use Rattle.std.proofs.Common.{◌<◌, ◌-◌, length, arith}
use Rattle.loom_engine.proofs.Covering.Trails.{last_is, last_within, lead_some}
use Rattle.loom_engine.proofs.rt.states.trails.last_of.Goals as goal

pub overflow_sub-number : goal.overflow_sub-number
overflow_sub-number c = let some : 0 < c.args.lead.last = lead_some c.args.steps.now c.args.lead c.requires.lead c.requires.some in omega arith

pub at-step-requires : goal.at-step-requires
at-step-requires c = last_within c.args.steps.now c.args.lead c.requires.lead c.requires.some

pub returns : goal.returns
returns c = last_is c.args.steps.now c.args.lead c.at-step.result.now c.requires.steps c.requires.lead c.requires.some c.at-step.ensures
