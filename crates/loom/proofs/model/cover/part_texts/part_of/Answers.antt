use Rattle.std.proofs.lemmas.Result.{err_from_is_err_and}
use Rattle.std.proofs.Common.{sym, subst, inl, inr}
use Rattle.serde_json.specs.Data.{Data}
use Rattle.serde_json.specs.View.{view}
use Rattle.loom_engine.specs.Parts.Texts.Accepted.{IsPartOf, IsRefusedPart}
use Rattle.loom_engine.specs.Path.Route.{settings}
use Rattle.loom_engine.proofs.Parts.Texts.Held.{held, no_text, refused_text}
use Rattle.loom.specs.Model.CoverPartText.{HasMet, IsNoMet}
use Rattle.loom.proofs.ModelLemmas.CoverPartTexts.{part_is_json, no_value, value_is}
use Rattle.loom.proofs.model.cover.part_texts.part_of.Goals as goal

-- no JSON
pub returns-in_err-value-clause-err : goal.returns-in_err-value-clause-err
returns-in_err-value-clause-err c = let p = err_from_is_err_and c.from_residual.result c.from_residual.ensures.1 in rw (p.1, p.2) (no_text (IsNoMet (IsRefusedPart (settings c.args.search) c.args.search.explores)) c.args.text.now c.in_err-value.field-0.0 c.in_err-value.ensures.err)

pub returns-in_err-value-clause-exact : goal.returns-in_err-value-clause-exact
returns-in_err-value-clause-exact c = let p = err_from_is_err_and c.from_residual.result c.from_residual.ensures.1 in rw (p.1, p.2) (λ never part met of. no_value (HasMet (λ d. IsPartOf (settings c.args.search) c.args.search.explores d part) met) c.args.text.now c.in_err-value.field-0.0 c.in_err-value.ensures.err never of)

-- no number
pub returns-in_err-met-clause-err : goal.returns-in_err-met-clause-err
returns-in_err-met-clause-err c = let p = err_from_is_err_and c.from_residual-in_err-met.result c.from_residual-in_err-met.ensures.1 in rw (p.1, p.2) (let R = IsNoMet (IsRefusedPart (settings c.args.search) c.args.search.explores) in
    refused_text R (part_is_json (settings c.args.search) c.args.search.explores) c.args.text.now (view c.in_ok-value.value) c.in_ok-value.ensures.ok c.in_err-met.field-0.0 (inl c.in_err-met.ensures.err))

pub returns-in_err-met-clause-exact : goal.returns-in_err-met-clause-exact
returns-in_err-met-clause-exact c = let p = err_from_is_err_and c.from_residual-in_err-met.result c.from_residual-in_err-met.ensures.1 in rw (p.1, p.2) (λ never part met of.
    let h = value_is (HasMet (λ d. IsPartOf (settings c.args.search) c.args.search.explores d part) met) c.args.text.now (view c.in_ok-value.value) c.in_ok-value.ensures.ok of in
    cc (h.says, c.in_err-met.ensures.err.1))

-- refused besides
pub returns-in_err-part-clause-err : goal.returns-in_err-part-clause-err
returns-in_err-part-clause-err c = let p = err_from_is_err_and c.from_residual-in_err-part.result c.from_residual-in_err-part.ensures.1 in rw (p.1, p.2) (let R = IsNoMet (IsRefusedPart (settings c.args.search) c.args.search.explores) in
    let why = subst (λ (d : Data). IsRefusedPart (settings c.args.search) c.args.search.explores d c.in_err-part.field-0.0) c.without_key.ensures c.in_err-part.ensures.err in
    refused_text R (part_is_json (settings c.args.search) c.args.search.explores) c.args.text.now (view c.in_ok-value.value) c.in_ok-value.ensures.ok c.in_err-part.field-0.0 (inr (c.in_ok-met.met, c.in_ok-met.ensures.ok, why)))

pub returns-in_err-part-clause-exact : goal.returns-in_err-part-clause-exact
returns-in_err-part-clause-exact c = let p = err_from_is_err_and c.from_residual-in_err-part.result c.from_residual-in_err-part.ensures.1 in rw (p.1, p.2) (λ never part met of.
    let h = value_is (HasMet (λ d. IsPartOf (settings c.args.search) c.args.search.explores d part) met) c.args.text.now (view c.in_ok-value.value) c.in_ok-value.ensures.ok of in
    c.in_err-part.ensures.exact never part (subst (λ (d : Data). IsPartOf (settings c.args.search) c.args.search.explores d part) (sym c.without_key.ensures) h.besides))

pub returns-clause-ok : goal.returns-clause-ok
returns-clause-ok c =
    let besides = subst (λ (d : Data). IsPartOf (settings c.args.search) c.args.search.explores d c.in_ok-part.part) c.without_key.ensures c.in_ok-part.ensures.ok in
    held (HasMet (λ d. IsPartOf (settings c.args.search) c.args.search.explores d c.in_ok-part.part) c.in_ok-met.met) c.args.text.now (view c.in_ok-value.value) c.in_ok-value.ensures.ok (record { says = c.in_ok-met.ensures.ok; besides = besides })
