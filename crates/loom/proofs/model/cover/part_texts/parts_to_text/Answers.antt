use Rattle.std.proofs.Common.{◌≡◌, ◌≤◌, codes, false, sym, ap, ap₂, ◌∙◌, subst, Some}
use Rattle.std.proofs.lemmas.Result.{IfOk-weaker}
use Rattle.std.proofs.lemmas.Str.{IsUtf8-string_bytes}
use Rattle.serde_json.specs.Data.{Data, depth}
use Rattle.serde_json.specs.View.{view}
use Rattle.serde_json.specs.Written.{compact_text, has_float}
use Rattle.loom_engine.specs.Parts.Texts.Grammar.{parts_data}
use Rattle.loom.specs.Model.CoverText.{with_key}
use Rattle.loom.specs.Model.CoverPartText.{with_met}
use Rattle.loom.proofs.ModelLemmas.CoverPartTexts.{list_besides, list_says, met_list_depth, met_list_plain}
use Rattle.loom.proofs.model.cover.part_texts.parts_to_text.Goals as goal

pub returns-clause-text : goal.returns-clause-text
returns-clause-text c =
    let q = c.args.parts.now in
    let is : view c.in_ok-with_key.field-0 ≡ with_met c.args.met (parts_data q) = c.in_ok-with_key.ensures ∙ ap₂ (with_key (codes "met")) c.from.ensures c.in_ok-to_value.ensures in
    let plain : has_float (view c.in_ok-with_key.field-0) ≡ false = ap has_float is ∙ met_list_plain q c.args.met in
    IfOk-weaker c.to_string.result _ _ (λ s h. h plain ∙ ap compact_text is) c.to_string.ensures.text

pub returns-clause-reads : goal.returns-clause-reads
returns-clause-reads c =
    let q = c.args.parts.now in
    let is : view c.in_ok-with_key.field-0 ≡ with_met c.args.met (parts_data q) = c.in_ok-with_key.ensures ∙ ap₂ (with_key (codes "met")) c.from.ensures c.in_ok-to_value.ensures in
    let P : Data → Type 0 = λ d. depth d ≤ 127 in
    let flat : depth (view c.in_ok-with_key.field-0) ≤ 127 = subst P (sym is) (met_list_depth q c.args.met) in
    IfOk-weaker c.to_string.result _ _
    (λ text h s explores true_one. (
      IsUtf8-string_bytes text,
      (with_met c.args.met (parts_data q), h flat ∙ ap Some is, record { says = list_says q c.args.met; besides = record { value = list_besides q c.args.met; true_parts = true_one } }),
    ))
    c.to_string.ensures.reads_back
