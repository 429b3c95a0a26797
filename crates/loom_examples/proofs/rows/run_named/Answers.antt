use Rattle.loom_examples.proofs.RowLemmas.Naming.{printed_or_not}
use Rattle.loom_examples.proofs.rows.run_named.Goals as goal

pub returns-in-Ok : goal.returns-in-Ok
returns-in-Ok g c = printed_or_not c.as_slice.result.now c.in-Ok.rows.items _ _ _ _ c.as_slice.ensures.value c.in-Ok.ensures c.run_row.ensures
