use Rattle.std.proofs.Common.{sym, ◌∙◌}
use Rattle.loom_engine.proofs.Parts.Telling.{choices_tell}
use Rattle.loom_engine.proofs.rt.states.trails.are_alike.Goals as goal

pub returns : goal.returns
returns c =
    let tells = choices_tell c.args.one c.args.other in
    (λ t. tells.0 (sym c.eq.ensures ∙ t), λ e. c.eq.ensures ∙ tells.1 e)
