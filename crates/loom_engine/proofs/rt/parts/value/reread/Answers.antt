use Rattle.serde_json.specs.View.{view}
use Rattle.loom_engine.specs.Path.Route.{settings}
use Rattle.loom_engine.specs.Parts.Texts.Accepted.{IsListOf}
use Rattle.loom_engine.proofs.Parts.Texts.Listed.{reread_at, list_again}
use Rattle.std.proofs.lemmas.Result.{IfOk-weaker, IfErr-weaker}
use Rattle.loom_engine.proofs.rt.parts.value.reread.Goals as goal

pub returns-clause-same : goal.returns-clause-same
returns-clause-same c =
    let given : IsListOf (settings c.args.parts.now.search) c.args.parts.now.search.explores (view c.in-Ok.value) c.args.parts.now = record { value = c.in-Ok.ensures; true_parts = c.requires } in
    IfOk-weaker c.from_value.result _ _ (λ q h. reread_at (settings c.args.parts.now.search) c.args.parts.now.search.explores (view c.in-Ok.value) c.args.parts.now q given h) c.from_value.ensures.ok

pub returns-clause-err : goal.returns-clause-err
returns-clause-err c =
    let given : IsListOf (settings c.args.parts.now.search) c.args.parts.now.search.explores (view c.in-Ok.value) c.args.parts.now = record { value = c.in-Ok.ensures; true_parts = c.requires } in
    IfErr-weaker c.from_value.result _ _ (λ e h. list_again (settings c.args.parts.now.search) c.args.parts.now.search.explores (view c.in-Ok.value) c.args.parts.now given e h) c.from_value.ensures.exact
