use Rattle.std.proofs.Common.{◌≡◌, flat_map, take}
use Rattle.loom_examples.proofs.rows.tables.joined.Given as goal

abbrev pub invariant-loop-table : goal.invariant-loop-table
invariant-loop-table g l = l.all.items ≡ flat_map (λ table. table.now) (take l.table-index l.fn.tables)
