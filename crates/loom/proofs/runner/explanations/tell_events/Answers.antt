use Rattle.std.proofs.Common.{◌∙◌, ap}
use Rattle.loom.specs.Runner.Explained.{told_events}
use Rattle.loom.proofs.Closures.Explaining.{told_of}
use Rattle.loom.proofs.runner.explanations.tell_events.Goals as goal

pub returns : goal.returns
returns g c =
    told_of c.args.builder.now c.args.turns.now _ c.args.end _ (c.in_ok-events.ensures ∙ ap told_events c.events.ensures) c.in_ok-path.ensures c.requires c.explained.result c.explained.ensures.told c.explained.ensures.path c.explained.ensures.limits
