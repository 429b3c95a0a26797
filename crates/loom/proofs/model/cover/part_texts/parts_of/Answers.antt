use Rattle.std.proofs.lemmas.Result.{IfErr-weaker, IfOk-weaker, err_from_is_err_and}
use Rattle.std.proofs.Common.{sym, subst, inl, inr, rules}
use Rattle.serde_json.specs.Data.{Data}
use Rattle.serde_json.specs.View.{view}
use Rattle.loom_engine.specs.Parts.Texts.Accepted.{IsListOf, IsRefusedList}
use Rattle.loom_engine.specs.Path.Route.{settings}
use Rattle.loom_engine.proofs.Parts.Texts.Held.{held, no_text, refused_text}
use Rattle.loom.specs.Model.CoverPartText.{HasMet, IsNoMet}
use Rattle.loom.proofs.ModelLemmas.CoverPartTexts.{list_is_json, no_value, value_is}
use Rattle.loom.proofs.model.cover.part_texts.parts_of.Goals as goal

-- no JSON
pub returns-in_err-value-clause-err : goal.returns-in_err-value-clause-err
returns-in_err-value-clause-err c = let p = err_from_is_err_and c.from_residual.result c.from_residual.ensures.1 in rw (p.1, p.2) (inl (no_text (IsNoMet (IsRefusedList (settings c.args.search) c.args.search.explores)) c.args.text.now c.in_err-value.field-0.0 c.in_err-value.ensures.err))

pub returns-in_err-value-clause-exact : goal.returns-in_err-value-clause-exact
returns-in_err-value-clause-exact c = let p = err_from_is_err_and c.from_residual.result c.from_residual.ensures.1 in rw (p.1, p.2) (λ never parts met of. no_value (HasMet (λ d. IsListOf (settings c.args.search) c.args.search.explores d parts) met) c.args.text.now c.in_err-value.field-0.0 c.in_err-value.ensures.err never of)

-- no number
pub returns-in_err-met-clause-err : goal.returns-in_err-met-clause-err
returns-in_err-met-clause-err c = let p = err_from_is_err_and c.from_residual-in_err-met.result c.from_residual-in_err-met.ensures.1 in rw (p.1, p.2) (let R = IsNoMet (IsRefusedList (settings c.args.search) c.args.search.explores) in
    inl (refused_text R (list_is_json (settings c.args.search) c.args.search.explores) c.args.text.now (view c.in_ok-value.value) c.in_ok-value.ensures.ok c.in_err-met.field-0.0 (inl c.in_err-met.ensures.err)))

pub returns-in_err-met-clause-exact : goal.returns-in_err-met-clause-exact
returns-in_err-met-clause-exact c = let p = err_from_is_err_and c.from_residual-in_err-met.result c.from_residual-in_err-met.ensures.1 in rw (p.1, p.2) (λ never parts met of.
    let h = value_is (HasMet (λ d. IsListOf (settings c.args.search) c.args.search.explores d parts) met) c.args.text.now (view c.in_ok-value.value) c.in_ok-value.ensures.ok of in
    cc (h.says, c.in_err-met.ensures.err.1))

-- refused besides
pub returns-in_err-parts-clause-err : goal.returns-in_err-parts-clause-err
returns-in_err-parts-clause-err c = let p = err_from_is_err_and c.from_residual-in_err-parts.result c.from_residual-in_err-parts.ensures.1 in rw (p.1, p.2) (let R = IsNoMet (IsRefusedList (settings c.args.search) c.args.search.explores) in
    let why = subst (λ (d : Data). IsRefusedList (settings c.args.search) c.args.search.explores d c.in_err-parts.field-0.0) c.without_key.ensures c.in_err-parts.ensures.err in
    inl (refused_text R (list_is_json (settings c.args.search) c.args.search.explores) c.args.text.now (view c.in_ok-value.value) c.in_ok-value.ensures.ok c.in_err-parts.field-0.0 (inr (c.in_ok-met.met, c.in_ok-met.ensures.ok, why))))

pub returns-in_err-parts-clause-exact : goal.returns-in_err-parts-clause-exact
returns-in_err-parts-clause-exact c = let p = err_from_is_err_and c.from_residual-in_err-parts.result c.from_residual-in_err-parts.ensures.1 in rw (p.1, p.2) (λ never parts met of.
    let h = value_is (HasMet (λ d. IsListOf (settings c.args.search) c.args.search.explores d parts) met) c.args.text.now (view c.in_ok-value.value) c.in_ok-value.ensures.ok of in
    c.in_err-parts.ensures.exact never parts (subst (λ (d : Data). IsListOf (settings c.args.search) c.args.search.explores d parts) (sym c.without_key.ensures) h.besides))

pub returns-clause-ok : goal.returns-clause-ok
returns-clause-ok c =
    let besides = subst (λ (d : Data). IsListOf (settings c.args.search) c.args.search.explores d c.in_ok-parts.parts) c.without_key.ensures c.in_ok-parts.ensures.ok in
    inl (held (HasMet (λ d. IsListOf (settings c.args.search) c.args.search.explores d c.in_ok-parts.parts) c.in_ok-met.met) c.args.text.now (view c.in_ok-value.value) c.in_ok-value.ensures.ok (record { says = c.in_ok-met.ensures.ok; besides = besides }))

-- no number, and no key
pub returns-then-not-has_met-clause-ok : goal.returns-then-not-has_met-clause-ok
returns-then-not-has_met-clause-ok c = IfOk-weaker c.path_of.result _ _ (λ read h. inr h) c.path_of.ensures.ok

pub returns-then-not-has_met-clause-exact : goal.returns-then-not-has_met-clause-exact
returns-then-not-has_met-clause-exact c =
    IfErr-weaker c.path_of.result _ _
    (λ why h never parts met of.
    let h = value_is (HasMet (λ d. IsListOf (settings c.args.search) c.args.search.explores d parts) met) c.args.text.now (view c.in_ok-value.value) c.in_ok-value.ensures.ok of in
    cc (h.says, c.has_met.ensures (search (rules, c.if-not-has_met.true))))
    c.path_of.ensures.err
