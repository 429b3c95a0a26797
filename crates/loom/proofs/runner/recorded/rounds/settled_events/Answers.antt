use Rattle.std.proofs.Common.{◌∙◌, rules, sym}
use Rattle.loom.proofs.RunnerLemmas.Made.{checked}
use Rattle.loom.proofs.RunnerLemmas.Rounds.{stopped_alone}
use Rattle.loom.specs.Runner.Run.{Checked}
use Rattle.loom.proofs.runner.recorded.rounds.settled_events.Goals as goal

pub returns-in-Ok-clause-settled : goal.returns-in-Ok-clause-settled
returns-in-Ok-clause-settled g c =
    let settled : Checked c.args.limits c.args.path.now c.args.turns.now c.args.told.now =
    checked c.args.limits c.args.path.now c.args.turns.now c.args.told.now (c.if-not-settle.ensures.0 (search rules)) (c.spoiled.ensures.leads (sym c.spoiled.ensures.spoiled ∙ c.in_default.is)) in
    (settled, c.in-Ok.ensures.events)

pub returns-in-Some-clause-errors : goal.returns-in-Some-clause-errors
returns-in-Some-clause-errors g c = stopped_alone c.in-Some.stop c.error_by.result c.error_by.ensures
