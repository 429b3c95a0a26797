use Rattle.loom_engine.specs.Runs.Body.{runs}
use Rattle.loom_engine.proofs.Runs.Bodies.{run_tree_law}
use Rattle.loom_engine.proofs.Runs.Ordering.{unequal_runs_law}
use Rattle.loom.specs.Model.Settings.{explores}
use Rattle.loom.proofs.ModelLemmas.Unequal.{unequal_ok}
use Rattle.loom.proofs.model.builder.Builder.check_with.Goals as goal

pub returns-clause-orders : goal.returns-clause-orders
returns-clause-orders g c =
    let b = c.args.self.now in
    let tree = runs g.B.Body.next (explores b) b.max_threads b.max_steps c.args.body.now in
    unequal_ok tree (run_tree_law g.B.Body.next (explores b) b.max_threads b.max_steps c.args.body.now).sound (unequal_runs_law g.B.Body.next (explores b) b.max_threads b.max_steps c.args.body.now) g.V.Visitor.takes c.args.visitor.now c.search.new.receiver b (g.S.CheckpointStore.gives c.args.store.now)
    (g.S.CheckpointStore.holds c.search.new.store) (g.C.Clock.answered c.search.new.clock) c.search.result c.search.ensures.reports
