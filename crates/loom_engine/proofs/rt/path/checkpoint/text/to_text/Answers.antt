use Rattle.std.proofs.Common.{◌≡◌, ◌≤◌, false, sym, ap, ◌∙◌, subst, Some}
use Rattle.std.proofs.lemmas.Result.{IfOk-weaker}
use Rattle.serde_json.specs.Data.{Data, depth}
use Rattle.serde_json.specs.View.{view}
use Rattle.serde_json.specs.Written.{compact_text, has_float}
use Rattle.loom_engine.specs.Checkpoint.Grammar.{path_data}
use Rattle.loom_engine.proofs.Checkpoint.TextLaws.{path_plain, path_depth}
use Rattle.loom_engine.proofs.rt.path.checkpoint.text.to_text.Goals as goal

pub returns-clause-text : goal.returns-clause-text
returns-clause-text c =
    let p = c.args.path.now in
    let is : view c.in_ok-to_value.field-0 ≡ path_data p.search p.explores p.nodes = c.in_ok-to_value.ensures.value in
    let plain : has_float (view c.in_ok-to_value.field-0) ≡ false = ap has_float is ∙ path_plain p.search p.explores p.nodes in
    IfOk-weaker c.to_string.result _ _ (λ s h. h plain ∙ ap compact_text is) c.to_string.ensures.text

pub returns-clause-reads_back : goal.returns-clause-reads_back
returns-clause-reads_back c =
    let p = c.args.path.now in
    let is : view c.in_ok-to_value.field-0 ≡ path_data p.search p.explores p.nodes = c.in_ok-to_value.ensures.value in
    let P : Data → Type 0 = λ d. depth d ≤ 127 in
    let flat : depth (view c.in_ok-to_value.field-0) ≤ 127 = subst P (sym is) (path_depth p.search p.explores p.nodes) in
    IfOk-weaker c.to_string.result _ _ (λ s h. h flat ∙ ap Some is) c.to_string.ensures.reads_back
