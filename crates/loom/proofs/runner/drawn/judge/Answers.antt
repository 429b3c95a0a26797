use Rattle.std.proofs.Common.{◌∙◌, ap, sym, subst, List, inl, inr, refl, rules}
use Rattle.loom_objects.specs.declared.choice.Choice.{Choice}
use Rattle.loom.specs.Model.Different.{hash_of}
use Rattle.loom.proofs.Closures.Walking.{checked_drawn, spoiled_drawn}
use Rattle.loom.proofs.RunnerLemmas.Made.{ok_gives}
use Rattle.loom.proofs.runner.drawn.judge.Goals as goal

pub returns-clause-judged : goal.returns-clause-judged
returns-clause-judged g c =
    let log = c.args.turns.now in
    let settled = checked_drawn c.args.limits c.args.path.now log c.args.told.now (c.if-not-settle_drawn.ensures.0 (search rules)) (c.spoiled.ensures.leads (sym c.spoiled.ensures.spoiled ∙ c.in_default.is)) in
    let ran =
    ok_gives c.run.result (g.V.Visitor.takes c.args.visitor.now c.as_slice-list.result.now c.in-Some-value.value c.run.new.self) c.run.ensures (sym c.if-is_err.ensures.value) in
    let own = c.as_slice-list.ensures.value ∙ c.in-Ok.ensures in
    let taken =
    subst (λ (l : List Choice). g.V.Visitor.takes c.args.visitor.now l c.in-Some-value.value c.run.new.self) own ran in
    (settled, record { value = c.in-Some-value.value; ended = sym c.in-Ok-value.ensures ∙ c.in-Some-value.is; taken = taken }, c.hash_of.ensures ∙ ap hash_of own)

pub returns-in-Some-clause-errors : goal.returns-in-Some-clause-errors
returns-in-Some-clause-errors g c =
    spoiled_drawn c.args.limits c.args.visitor.now c.args.path.now c.args.turns.now c.args.told.now c.in-Some.stop c.error_by.result c.error_by.ensures (sym c.spoiled.ensures.spoiled ∙ c.in-Some.is)

pub returns-then-not-settle_drawn-clause-errors : goal.returns-then-not-settle_drawn-clause-errors
returns-then-not-settle_drawn-clause-errors g c = (inr (inl (λ s. absurd (cc (c.if-not-settle_drawn.ensures.1 s)))), refl)

pub returns-then-is_err-clause-errors : goal.returns-then-is_err-clause-errors
returns-then-is_err-clause-errors g c =
    let settled = checked_drawn c.args.limits c.args.path.now c.args.turns.now c.args.told.now (c.if-not-settle_drawn.ensures.0 (search rules)) (c.spoiled.ensures.leads (sym c.spoiled.ensures.spoiled ∙ c.in_default.is)) in
    inr (settled, (c.in-Some-value.value, sym c.in-Ok-value.ensures ∙ c.in-Some-value.is))
