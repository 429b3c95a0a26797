use Rattle.std.proofs.Common.{◌<◌, ap, arith}
use Rattle.std.proofs.lemmas.List.Elements.{All-more}
use Rattle.loom_engine.specs.declared.rt.snapshots.Snapshot.{Snapshot}
use Rattle.loom_engine.proofs.rt.snapshots.count_before.Goals as goal

pub loop-count-preserved : goal.loop-count-preserved
loop-count-preserved g c =
    All-more (λ (kept : Snapshot _ _). kept.standing.position < c.args.place) c.args.list.now c.loop-count.count c.index-list-count.result (omega arith) c.loop-count.invariant
    (omega (arith, ap (λ (kept : Snapshot _ _). kept.standing.position) c.index-list-count.is))
