use Rattle.std.proofs.Common.{◌<◌, length, Some, ap, sym, ◌∙◌, arith}
use Rattle.loom_engine.proofs.Covering.Trails.{list_there, lists_length}
use Rattle.loom_engine.proofs.rt.states.trails.Trails.choices.Goals as goal

pub at-lead-requires : goal.at-lead-requires
at-lead-requires c =
    let size = ap length (sym c.self.view_is) ∙ lists_length c.self.inside.steps c.self.inside.leads in
    let low : c.args.number < length c.args.self.now = c.requires in
    omega (arith, size, low)

pub gathered-requires-clause-lead : goal.gathered-requires-clause-lead
gathered-requires-clause-lead c = c.self.invariant.each c.args.number c.at-lead.result.now c.at-lead.ensures

pub returns : goal.returns
returns c = list_there c.self.inside.steps c.self.inside.leads c.args.self.now c.self.view_is c.args.number c.at-lead.result.now c.at-lead.ensures ∙ ap Some (sym c.in_ok-choices.ensures)
