use Rattle.loom_examples.proofs.RowLemmas.Covering.{covers}
use Rattle.loom_examples.proofs.rows.cover.covered_by.Goals as goal

pub returns : goal.returns
returns g c = covers _ _ _ _ _ _ _ _ c.cover_with.result c.cover_with.ensures.covers (λ e text gave. rw (c.file_store-store.ensures.some.1 e) at gave)
