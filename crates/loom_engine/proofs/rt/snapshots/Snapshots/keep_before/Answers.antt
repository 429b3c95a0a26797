use Rattle.std.proofs.Common.{◌<◌, ap, subst, sym, take, ◌∙◌}
use Rattle.std.specs.Prelude.{All}
use Rattle.loom_engine.proofs.rt.snapshots.Snapshots.keep_before.Goals as goal

pub returns-clause-fewer : goal.returns-clause-fewer
returns-clause-fewer g c = (c.count_before-count.result, c.truncate.ensures.items ∙ ap (λ l. take c.count_before-count.result l) c.self.view_is)

pub returns-clause-before : goal.returns-clause-before
returns-clause-before g c =
    subst (λ l. All (λ kept. kept.standing.position < c.args.place) l) (ap (λ l. take c.count_before-count.result l) c.as_slice.ensures.value ∙ sym c.truncate.ensures.items) c.count_before-count.ensures
