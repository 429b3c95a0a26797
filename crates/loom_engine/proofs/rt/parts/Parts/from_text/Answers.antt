use Rattle.std.proofs.lemmas.Result.{IfOk-weaker, IfErr-weaker}
use Rattle.serde_json.specs.View.{view}
use Rattle.loom_engine.specs.Path.Route.{settings}
use Rattle.loom_engine.specs.Parts.Texts.Accepted.{IsListOf, IsRefusedList}
use Rattle.loom_engine.proofs.Parts.Texts.Held.{held, refused_text, no_text}
use Rattle.loom_engine.proofs.rt.parts.Parts.from_text.Goals as goal

pub returns-in-Ok-clause-ok : goal.returns-in-Ok-clause-ok
returns-in-Ok-clause-ok c =
    IfOk-weaker c.from_value.result _ _ (λ q h. held (λ d. IsListOf (settings c.args.search) c.args.search.explores d q) c.args.text.now (view c.in-Ok.value) c.in-Ok.ensures.ok h) c.from_value.ensures.ok

pub returns-in-Ok-clause-err : goal.returns-in-Ok-clause-err
returns-in-Ok-clause-err c =
    IfErr-weaker c.from_value.result _ _ (λ e why. refused_text (IsRefusedList (settings c.args.search) c.args.search.explores) (λ d h. h) c.args.text.now (view c.in-Ok.value) c.in-Ok.ensures.ok e why)
    c.from_value.ensures.err

pub returns-in-Err-clause-err : goal.returns-in-Err-clause-err
returns-in-Err-clause-err c = no_text (IsRefusedList (settings c.args.search) c.args.search.explores) c.args.text.now c.in-Err.error c.in-Err.ensures.err
