use Rattle.loom.proofs.ModelLemmas.CoverRounds.{cover_begun, cover_refused}
use Rattle.loom.proofs.model.builder.Builder.begin_cover.Goals as goal

pub returns-in_ok-from_text-in-Some-clause-begun : goal.returns-in_ok-from_text-in-Some-clause-begun
returns-in_ok-from_text-in-Some-clause-begun g c =
    let read = c.in_ok-from_text-in-Some.ensures.ok in
    cover_begun c.args.self.now c.path_search-search.result (g.S.CheckpointStore.gives c.args.store.now) (g.S.CheckpointStore.holds c.load.new.self) c.in_ok-from_text-in-Some.field-0
    c.path_search-search.ensures.settings c.path_search-search.ensures.explores _ (rw c.in-Some.is at c.in_ok-text.ensures.given) (rw c.in-Some.is at c.in_ok-text.ensures.held) read.0
    (rw c.as_slice.ensures.value at read.1)

pub returns-in_err-from_text-in-Some-clause-errors : goal.returns-in_err-from_text-in-Some-clause-errors
returns-in_err-from_text-in-Some-clause-errors g c =
    cover_refused c.args.self.now c.path_search-search.result (g.S.CheckpointStore.gives c.args.store.now) c.from_residual-in_err-from_text-in-Some.result c.in_err-from_text-in-Some.field-0.0 _ c.path_search-search.ensures.settings
    c.path_search-search.ensures.explores (rw c.in-Some.is at c.in_ok-text.ensures.given) (rw c.as_slice.ensures.value at c.in_err-from_text-in-Some.ensures.err) c.from_residual-in_err-from_text-in-Some.ensures.1
