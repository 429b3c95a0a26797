use Rattle.std.proofs.Common.{length, ap, sym, ◌∙◌}
use Rattle.loom_engine.proofs.Covering.Trails.{lists_length}
use Rattle.loom_engine.proofs.rt.states.trails.Trails.len.Goals as goal

pub returns : goal.returns
returns c = c.len.ensures ∙ sym (lists_length c.self.inside.steps c.self.inside.leads) ∙ ap length c.self.view_is
