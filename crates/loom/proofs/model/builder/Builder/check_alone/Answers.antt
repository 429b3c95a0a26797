use Rattle.std.specs.Prelude.{◌≡◌}
use Rattle.loom_engine.specs.Runs.Body.{runs}
use Rattle.loom_engine.proofs.Runs.Bodies.{run_tree_law}
use Rattle.loom_engine.proofs.Runs.Ordering.{unequal_runs_law}
use Rattle.loom.specs.Model.Settings.{explores}
use Rattle.loom.specs.declared.model.receiver.NoReceiver.{NoReceiver}
use Rattle.loom.proofs.ModelLemmas.Unequal.{unequal_ok}
use Rattle.loom.proofs.ModelLemmas.Unheard.{unheard_ok, unheard_errors}
use Rattle.loom.proofs.model.builder.Builder.check_alone.Goals as goal

pub returns-clause-reports : goal.returns-clause-reports
returns-clause-reports g c =
    let tree = runs g.B.Body.next (explores c.args.self.now) c.args.self.now.max_threads c.args.self.now.max_steps c.args.body.now in
    unheard_ok {V = NoReceiver} (λ old choices value new. Unit {0}) (record {}) c.search.new.receiver c.args.self.now tree (g.S.CheckpointStore.gives c.args.store.now)
    (g.S.CheckpointStore.holds c.search.new.store) c.search.result c.search.ensures.reports

pub returns-clause-errors : goal.returns-clause-errors
returns-clause-errors g c = unheard_errors c.args.self.now (g.S.CheckpointStore.gives c.args.store.now) _ c.search.result c.search.ensures.errors

pub returns-clause-orders : goal.returns-clause-orders
returns-clause-orders g c =
    let b = c.args.self.now in
    let tree = runs g.B.Body.next (explores b) b.max_threads b.max_steps c.args.body.now in
    unequal_ok tree (run_tree_law g.B.Body.next (explores b) b.max_threads b.max_steps c.args.body.now).sound (unequal_runs_law g.B.Body.next (explores b) b.max_threads b.max_steps c.args.body.now) {V = NoReceiver} (λ old choices value new. Unit {0}) (record {}) c.search.new.receiver b
    (g.S.CheckpointStore.gives c.args.store.now) (g.S.CheckpointStore.holds c.search.new.store) (λ time. time ≡ record { secs = 0; nanos = 0 }) c.search.result c.search.ensures.reports
