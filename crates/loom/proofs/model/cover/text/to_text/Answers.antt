use Rattle.std.proofs.Common.{◌≡◌, ◌≤◌, codes, false, sym, ap, ap₂, ◌∙◌, subst, Some}
use Rattle.std.proofs.lemmas.Result.{IfOk-weaker}
use Rattle.std.proofs.lemmas.Str.{IsUtf8-string_bytes}
use Rattle.serde_json.specs.Data.{Data, depth}
use Rattle.serde_json.specs.View.{view}
use Rattle.serde_json.specs.Written.{compact_text, has_float}
use Rattle.loom.specs.Model.CoverText.{cover_data, with_key}
use Rattle.loom.proofs.ModelLemmas.CoverTexts.{besides, cover_depth, cover_plain, says}
use Rattle.loom.proofs.model.cover.text.to_text.Goals as goal

pub returns-clause-text : goal.returns-clause-text
returns-clause-text c =
    let p = c.args.path.now in
    let is : view c.in_ok-with_key.field-0 ≡ cover_data p.search p.explores p.nodes =
    c.in_ok-with_key.ensures ∙ ap₂ (with_key (codes "search")) c.in_ok-cover.ensures c.in_ok-to_value.ensures.value in
    let plain : has_float (view c.in_ok-with_key.field-0) ≡ false = ap has_float is ∙ cover_plain p.search p.explores p.nodes in
    IfOk-weaker c.to_string.result _ _ (λ s h. h plain ∙ ap compact_text is) c.to_string.ensures.text

pub returns-clause-reads : goal.returns-clause-reads
returns-clause-reads c =
    let p = c.args.path.now in
    let is : view c.in_ok-with_key.field-0 ≡ cover_data p.search p.explores p.nodes =
    c.in_ok-with_key.ensures ∙ ap₂ (with_key (codes "search")) c.in_ok-cover.ensures c.in_ok-to_value.ensures.value in
    let P : Data → Type 0 = λ d. depth d ≤ 127 in
    let flat : depth (view c.in_ok-with_key.field-0) ≤ 127 = subst P (sym is) (cover_depth p.search p.explores p.nodes) in
    IfOk-weaker c.to_string.result _ _
    (λ s h formed. (
      IsUtf8-string_bytes s,
      (
        cover_data p.search p.explores p.nodes,
        h flat ∙ ap Some is,
        record { says = says p.search p.explores p.nodes; path = record { value = besides p.search p.explores p.nodes; fits = c.in_ok-to_value.ensures.fits; well_formed = formed } },
      ),
    ))
    c.to_string.ensures.reads_back
