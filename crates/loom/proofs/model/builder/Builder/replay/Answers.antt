use Rattle.std.proofs.Common.{ap}
use Rattle.std.specs.Prelude.{Ok, Err}
use Rattle.loom_engine.specs.Path.Route.{Route}
use Rattle.loom_engine.specs.Runs.Body.{runs}
use Rattle.loom_engine.proofs.Runs.Bodies.{run_tree_law}
use Rattle.loom_engine.proofs.Runs.Ordering.{unequal_runs_law}
use Rattle.loom.specs.Model.Settings.{explores}
use Rattle.loom.proofs.ModelLemmas.Replaying.{replays}
use Rattle.loom.proofs.ModelLemmas.Unequal.{unequal_replay}
use Rattle.loom.proofs.model.builder.Builder.replay.Goals as goal

pub run_once-requires-clause-starts : goal.run_once-requires-clause-starts
run_once-requires-clause-starts g c =
    let is = c.in_ok-path.ensures in
    (ap (λ (p : Route). p.position) is, ap (λ (p : Route). p.explores) is, ap (λ (p : Route). p.exploring) is)

pub returns-in-Failed-clause-replays : goal.returns-in-Failed-clause-replays
returns-in-Failed-clause-replays g c =
    let tree = runs g.B.Body.next (explores c.args.self.now) c.args.self.now.max_threads c.args.self.now.max_steps c.args.body.now in
    let sound = run_tree_law g.B.Body.next (explores c.args.self.now) c.args.self.now.max_threads c.args.self.now.max_steps c.args.body.now in
    let e = rw c.in-Failed.is at c.in_ok-ending.ensures.along in
    replays (explores c.args.self.now) c.args.self.now.max_branches tree c.args.choices.now _ c.run_once.new.path c.in_ok-choices.choices.items (Err c.in-Failed.failure.kind) sound
    c.in_ok-path.ensures e c.in_ok-choices.ensures.list

pub returns-in-Failed-clause-orders : goal.returns-in-Failed-clause-orders
returns-in-Failed-clause-orders g c =
    let b = c.args.self.now in
    let tree = runs g.B.Body.next (explores b) b.max_threads b.max_steps c.args.body.now in
    let sound = run_tree_law g.B.Body.next (explores b) b.max_threads b.max_steps c.args.body.now in
    let e = rw c.in-Failed.is at c.in_ok-ending.ensures.along in
    unequal_replay tree sound.sound (unequal_runs_law g.B.Body.next (explores b) b.max_threads b.max_steps c.args.body.now) b.max_branches c.args.choices.now c.in_ok-choices.choices.items c.in-Failed.failure.kind
    (replays (explores b) b.max_branches tree c.args.choices.now _ c.run_once.new.path c.in_ok-choices.choices.items (Err c.in-Failed.failure.kind) sound c.in_ok-path.ensures e c.in_ok-choices.ensures.list)

pub returns-clause-replays : goal.returns-clause-replays
returns-clause-replays g c =
    let tree = runs g.B.Body.next (explores c.args.self.now) c.args.self.now.max_threads c.args.self.now.max_steps c.args.body.now in
    let sound = run_tree_law g.B.Body.next (explores c.args.self.now) c.args.self.now.max_threads c.args.self.now.max_steps c.args.body.now in
    let e = rw c.in-Ended.is at c.in_ok-ending.ensures.along in
    replays (explores c.args.self.now) c.args.self.now.max_branches tree c.args.choices.now _ c.run_once.new.path c.in_ok-choices.choices.items (Ok c.in-Ended.value) sound
    c.in_ok-path.ensures e c.in_ok-choices.ensures.list
