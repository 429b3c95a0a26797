use Rattle.loom_examples.proofs.Tables.Joining.{one_more}
use Rattle.loom_examples.proofs.rows.tables.joined.Goals as goal

pub loop-table-preserved : goal.loop-table-preserved
loop-table-preserved g c =
    let at = c.loop-table in
    one_more (λ table. table.now) c.args.tables.now at.table-index c.table-item.result at.all.items _ at.invariant c.loop-table-test.true c.table-item.is c.in_ok-extend_from_slice.ensures.items
