use Rattle.std.proofs.Common.{◌∙◌, ap₂, sym, subst, List, inl, inr, refl, rules}
use Rattle.loom_objects.specs.declared.choice.Choice.{Choice}
use Rattle.loom_engine.specs.Path.Route.{Route}
use Rattle.loom.specs.Runner.Alike.{trace}
use Rattle.loom.specs.Runner.Chains.{GoesTo}
use Rattle.loom.specs.Runner.Run.{Checked}
use Rattle.loom.proofs.RunnerLemmas.Made.{checked, ok_gives}
use Rattle.loom.proofs.Closures.Alike.{agrees, agrees_if, unlike}
use Rattle.loom.proofs.Closures.Refusing.{handed_on, spoiled_so}
use Rattle.loom.proofs.runner.run.judge.Goals as goal

pub returns-clause-judged : goal.returns-clause-judged
returns-clause-judged g c =
    let settled : Checked c.args.limits c.args.path.now c.args.turns.now c.args.told.now =
    checked c.args.limits c.args.path.now c.args.turns.now c.args.told.now (c.if-not-settle.ensures.0 (search rules)) (c.spoiled.ensures.leads (sym c.spoiled.ensures.spoiled ∙ c.in_default.is)) in
    let ran =
    ok_gives c.run.result (g.V.Visitor.takes c.args.visitor.now c.as_slice-2.result.now c.in-Some-value.value c.run.new.self) c.run.ensures (sym c.if-is_err.ensures.value) in
    let taken =
    subst (λ (l : List Choice). g.V.Visitor.takes c.args.visitor.now l c.in-Some-value.value c.run.new.self) (c.as_slice-2.ensures.value ∙ c.in-Ok.ensures) ran in
    (settled, record { value = c.in-Some-value.value; ended = sym c.in-Ok-value.ensures ∙ c.in-Some-value.is; taken = taken }, subst (λ (r : Route). GoesTo r c.next_path.result) c.take_path-next.ensures.path c.next_path.ensures)

pub returns-clause-next : goal.returns-clause-next
returns-clause-next g c = (
  agrees c.args.last.now c.args.turns.now c.as_slice.result.now (c.as_slice.ensures.value ∙ c.in-Ok.ensures) c.in_ok-compare.ensures.like (sym c.failure.ensures ∙ c.in_default-failure.is),
  c.new.ensures ∙ ap₂ trace c.in-Ok.ensures (c.in-Ok-exchange_events.ensures.events ∙ c.take_path-next.ensures.history),
)

pub returns-in-Some-failure-clause-next : goal.returns-in-Some-failure-clause-next
returns-in-Some-failure-clause-next g c =
    let failed = sym c.failure.ensures ∙ c.in-Some-failure.is in (
      failed,
      agrees_if c.args.last.now c.args.turns.now c.as_slice.result.now c.in-Some-failure.failure (c.as_slice.ensures.value ∙ c.in-Ok.ensures) c.in_ok-compare.ensures.like failed,
    )

pub returns-in_err-compare-clause-errors : goal.returns-in_err-compare-clause-errors
returns-in_err-compare-clause-errors g c =
    let settled : Checked c.args.limits c.args.path.now c.args.turns.now c.args.told.now =
    checked c.args.limits c.args.path.now c.args.turns.now c.args.told.now (c.if-not-settle.ensures.0 (search rules)) (c.spoiled.ensures.leads (sym c.spoiled.ensures.spoiled ∙ c.in_default.is)) in
    handed_on c.from_residual.result c.in_err-compare.field-0.0 _ c.from_residual.ensures.1
    (unlike c.args.limits c.args.visitor.now c.args.path.now c.args.last.now c.args.number c.args.turns.now c.args.told.now c.as_slice.result.now c.in_err-compare.field-0.0
    (c.as_slice.ensures.value ∙ c.in-Ok.ensures) settled c.in_err-compare.ensures.errors)

pub returns-in-Some-clause-errors : goal.returns-in-Some-clause-errors
returns-in-Some-clause-errors g c =
    inr (spoiled_so c.args.limits c.args.visitor.now c.args.path.now c.args.turns.now c.args.told.now c.in-Some.stop c.error_by.result c.error_by.ensures (sym c.spoiled.ensures.spoiled ∙ c.in-Some.is))

pub returns-then-not-settle-clause-errors : goal.returns-then-not-settle-clause-errors
returns-then-not-settle-clause-errors g c = inr (inr (inl (λ s. absurd (cc (c.if-not-settle.ensures.1 s)))), refl)

pub returns-then-is_err-clause-errors : goal.returns-then-is_err-clause-errors
returns-then-is_err-clause-errors g c =
    let settled : Checked c.args.limits c.args.path.now c.args.turns.now c.args.told.now =
    checked c.args.limits c.args.path.now c.args.turns.now c.args.told.now (c.if-not-settle.ensures.0 (search rules)) (c.spoiled.ensures.leads (sym c.spoiled.ensures.spoiled ∙ c.in_default.is)) in
    inr (inr (settled, (c.in-Some-value.value, sym c.in-Ok-value.ensures ∙ c.in-Some-value.is)))
