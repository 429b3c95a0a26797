use Rattle.loom.proofs.ModelLemmas.Paths.{begun_by}
use Rattle.loom.proofs.model.builder.Builder.begin.Goals as goal

pub returns-in_ok-from_text-in-Some-clause-begun : goal.returns-in_ok-from_text-in-Some-clause-begun
returns-in_ok-from_text-in-Some-clause-begun g c =
    let read = c.in_ok-from_text-in-Some.ensures.ok in
    begun_by c.args.self.now c.path_search-search.result (g.S.CheckpointStore.gives c.args.store.now) (g.S.CheckpointStore.holds c.load.new.self) c.in_ok-from_text-in-Some.field-0
    c.path_search-search.ensures.settings c.path_search-search.ensures.explores
    (record {
      rests = read.0;
      text = _;
      gave = rw c.in-Some.is at c.in_ok-text.ensures.given;
      held = rw c.in-Some.is at c.in_ok-text.ensures.held;
      reads = rw c.as_slice.ensures.value at read.1;
    })
