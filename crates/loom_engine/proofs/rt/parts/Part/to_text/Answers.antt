use Rattle.std.proofs.Common.{◌≡◌, ◌≤◌, false, sym, ap, ◌∙◌, subst, Some}
use Rattle.std.proofs.lemmas.Result.{IfOk-weaker}
use Rattle.serde_json.specs.Data.{Data, depth}
use Rattle.serde_json.specs.View.{view}
use Rattle.serde_json.specs.Written.{compact_text, has_float}
use Rattle.loom_engine.specs.Parts.Texts.Grammar.{part_data}
use Rattle.loom_engine.proofs.Parts.Texts.Plain.{part_plain, part_depth}
use Rattle.loom_engine.proofs.rt.parts.Part.to_text.Goals as goal

pub returns-clause-text : goal.returns-clause-text
returns-clause-text c =
    let is : view c.in_ok-to_value.field-0 ≡ part_data c.args.self.now = c.in_ok-to_value.ensures in
    let plain : has_float (view c.in_ok-to_value.field-0) ≡ false = ap has_float is ∙ part_plain c.args.self.now in
    IfOk-weaker c.to_string.result _ _ (λ s h. h plain ∙ ap compact_text is) c.to_string.ensures.text

pub returns-clause-reads_back : goal.returns-clause-reads_back
returns-clause-reads_back c =
    let is : view c.in_ok-to_value.field-0 ≡ part_data c.args.self.now = c.in_ok-to_value.ensures in
    let P : Data → Type 0 = λ d. depth d ≤ 127 in
    let flat : depth (view c.in_ok-to_value.field-0) ≤ 127 = subst P (sym is) (part_depth c.args.self.now) in
    IfOk-weaker c.to_string.result _ _ (λ s h. h flat ∙ ap Some is) c.to_string.ensures.reads_back
