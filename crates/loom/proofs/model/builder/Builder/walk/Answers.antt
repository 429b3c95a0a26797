use Rattle.loom_engine.specs.Runs.Body.{runs}
use Rattle.loom_engine.proofs.Runs.Bodies.{run_tree_law}
use Rattle.loom_engine.proofs.Runs.Ordering.{unequal_runs_law}
use Rattle.loom.specs.Model.Settings.{explores}
use Rattle.loom.proofs.ModelLemmas.Walking.{walks_so, walks_unequal}
use Rattle.loom.proofs.model.builder.Builder.walk.Goals as goal

pub returns-clause-walks : goal.returns-clause-walks
returns-clause-walks g c =
    let b = c.args.self.now in
    let tree = runs g.B.Body.next (explores b) b.max_threads b.max_steps c.args.body.now in
    walks_so g.V.Visitor.takes c.args.visitor.now c.walk_by.new.visitor b tree c.walk_by.new.different c.args.walk (g.C.Clock.answered c.walk_by.new.clock) c.in_ok-walked.walked c.in_ok-walked.ensures

pub returns-clause-orders : goal.returns-clause-orders
returns-clause-orders g c =
    let b = c.args.self.now in
    let tree = runs g.B.Body.next (explores b) b.max_threads b.max_steps c.args.body.now in
    let walks = walks_so g.V.Visitor.takes c.args.visitor.now c.walk_by.new.visitor b tree c.walk_by.new.different c.args.walk (g.C.Clock.answered c.walk_by.new.clock) c.in_ok-walked.walked c.in_ok-walked.ensures in
    walks_unequal tree (run_tree_law g.B.Body.next (explores b) b.max_threads b.max_steps c.args.body.now).sound (unequal_runs_law g.B.Body.next (explores b) b.max_threads b.max_steps c.args.body.now)
    g.V.Visitor.takes c.args.visitor.now c.walk_by.new.visitor b c.args.walk (g.C.Clock.answered c.walk_by.new.clock) c.in_ok-walked.walked walks
