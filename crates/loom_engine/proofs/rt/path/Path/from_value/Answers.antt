use Rattle.std.proofs.lemmas.Result.{IfErr-weaker}
use Rattle.serde_json.specs.View.{view}
use Rattle.loom_engine.specs.Path.Route.{settings}
use Rattle.loom_engine.proofs.Checkpoint.ShapeLaws.{refused-no_path}
use Rattle.loom_engine.proofs.rt.path.Path.from_value.Goals as goal

pub returns-clause-exact : goal.returns-clause-exact
returns-clause-exact c =
    IfErr-weaker c.find_path.result _ _ (refused-no_path (settings c.args.search) c.args.search.explores (view c.args.value.now)) c.find_path.ensures.err
