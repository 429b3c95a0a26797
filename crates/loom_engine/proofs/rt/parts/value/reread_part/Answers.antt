use Rattle.std.proofs.Common.{sym}
use Rattle.serde_json.specs.View.{view}
use Rattle.loom_engine.specs.Path.Route.{settings}
use Rattle.loom_engine.proofs.Parts.Texts.Listed.{part_again, part_copy}
use Rattle.loom_engine.proofs.rt.parts.value.reread_part.Goals as goal

pub returns-in-Ok-from_value-clause-same : goal.returns-in-Ok-from_value-clause-same
returns-in-Ok-from_value-clause-same c =
    part_copy (settings c.search.result) c.search.result.explores (view c.in-Ok.value) c.args.part.now c.in-Ok-from_value.read
    (record { value = c.in-Ok.ensures; true_part = c.requires }) (sym c.search.ensures.settings) (sym c.search.ensures.explores) c.in-Ok-from_value.ensures.ok c.notes_follow.ensures

pub returns-clause-err : goal.returns-clause-err
returns-clause-err c =
    part_again (settings c.search.result) c.search.result.explores (view c.in-Ok.value) c.args.part.now
    (record { value = c.in-Ok.ensures; true_part = c.requires }) (sym c.search.ensures.settings) (sym c.search.ensures.explores) c.in-Err-from_value.error c.in-Err-from_value.ensures.exact
