use Rattle.std.proofs.Common.{◌∙◌, ap₂, sym, subst, List, rules}
use Rattle.loom_objects.specs.declared.choice.Choice.{Choice}
use Rattle.loom.specs.Runner.Alike.{trace}
use Rattle.loom.specs.Runner.Comparing.{IsRefusedOrSays}
use Rattle.loom.proofs.Closures.Refusing.{handed_on}
use Rattle.loom.proofs.Closures.Shortening.{changed_by, checked_by}
use Rattle.loom.proofs.runner.shortening.judge.Goals as goal

pub returns-in_err-compare-clause-errors : goal.returns-in_err-compare-clause-errors
returns-in_err-compare-clause-errors g c =
    let log = c.args.turns.now in
    let settled = checked_by c.args.limits c.args.is_drawn c.args.path.now log c.args.told.now (c.if-not-is_settled.ensures.0 (search rules)) (c.spoiled.ensures.leads (sym c.spoiled.ensures.spoiled ∙ c.in_default.is)) in
    let says =
    subst (λ (l : List Choice). IsRefusedOrSays c.args.last.now (trace l log.history) c.args.number c.in_err-compare.field-0.0) (c.as_slice.ensures.value ∙ c.in-Ok.ensures) c.in_err-compare.ensures.errors in
    handed_on c.from_residual.result c.in_err-compare.field-0.0 _ c.from_residual.ensures.1
    (changed_by c.args.limits c.args.is_drawn c.args.path.now log c.args.told.now c.args.last.now c.args.number c.in_err-compare.field-0.0 settled says)

pub returns-clause-tried : goal.returns-clause-tried
returns-clause-tried g c =
    let log = c.args.turns.now in
    let settled = checked_by c.args.limits c.args.is_drawn c.args.path.now log c.args.told.now (c.if-not-is_settled.ensures.0 (search rules)) (c.spoiled.ensures.leads (sym c.spoiled.ensures.spoiled ∙ c.in_default.is)) in
    (settled, c.in-Ok-failing_of.ensures, c.new.ensures ∙ ap₂ trace c.in-Ok.ensures c.in-Ok-take_events.ensures.events)
