use Rattle.std.proofs.lemmas.Result.{IfOk-weaker, IfErr-weaker}
use Rattle.serde_json.specs.View.{view}
use Rattle.loom_engine.specs.Path.Route.{settings}
use Rattle.loom_engine.specs.declared.rt.parts.error.PartsError.TheVariants.{WrongShape}
use Rattle.loom_engine.proofs.Parts.Texts.Shapes.{single}
use Rattle.loom_engine.proofs.Parts.Texts.Listed.{part_read, part_refused, part_no_shape, part_header, refused-no_part}
use Rattle.loom_engine.proofs.rt.parts.Part.from_value.Goals as goal

pub returns-in-Err-clause-err : goal.returns-in-Err-clause-err
returns-in-Err-clause-err c = part_header (settings c.args.search) c.args.search.explores (view c.args.value.now) c.in-Err.error c.in-Err.ensures.err

pub returns-in-Err-clause-exact : goal.returns-in-Err-clause-exact
returns-in-Err-clause-exact c = λ other q.
    refused-no_part (settings c.args.search) c.args.search.explores (view c.args.value.now) c.in-Err.error
    (part_header (settings c.args.search) c.args.search.explores (view c.args.value.now) c.in-Err.error c.in-Err.ensures.err) other q

pub returns-in-None-clause-err : goal.returns-in-None-clause-err
returns-in-None-clause-err c = part_no_shape (settings c.args.search) c.args.search.explores (view c.args.value.now) c.in-None.ensures

pub returns-in-None-clause-exact : goal.returns-in-None-clause-exact
returns-in-None-clause-exact c = λ other q.
    refused-no_part (settings c.args.search) c.args.search.explores (view c.args.value.now) WrongShape
    (part_no_shape (settings c.args.search) c.args.search.explores (view c.args.value.now) c.in-None.ensures) other q

pub returns-clause-ok : goal.returns-clause-ok
returns-clause-ok c =
    let p = c.in-Some.single in
    IfOk-weaker c.read_item.result _ _
    (λ q h. part_read (settings c.args.search) c.args.search.explores (view c.args.value.now) (single p.format.now (view p.part.now) p.version) c.in-Some.ensures c.in_default.ensures.ok q h)
    c.read_item.ensures.ok

pub returns-clause-err : goal.returns-clause-err
returns-clause-err c =
    let p = c.in-Some.single in
    IfErr-weaker c.read_item.result _ _
    (λ e why. part_refused (settings c.args.search) c.args.search.explores (view c.args.value.now) (single p.format.now (view p.part.now) p.version) c.in-Some.ensures c.in_default.ensures.ok e why)
    c.read_item.ensures.err

pub returns-clause-exact : goal.returns-clause-exact
returns-clause-exact c =
    let p = c.in-Some.single in
    IfErr-weaker c.read_item.result _ _
    (λ e why other q. refused-no_part (settings c.args.search) c.args.search.explores (view c.args.value.now) e
    (part_refused (settings c.args.search) c.args.search.explores (view c.args.value.now) (single p.format.now (view p.part.now) p.version) c.in-Some.ensures c.in_default.ensures.ok e why) other q)
    c.read_item.ensures.err
