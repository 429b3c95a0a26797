use Rattle.std.proofs.Common.{ap}
use Rattle.std.specs.Prelude.{Ok, Err}
use Rattle.loom_engine.specs.Path.Route.{Route}
use Rattle.loom_engine.specs.Runs.Body.{runs}
use Rattle.loom_engine.proofs.Runs.Bodies.{run_tree_law}
use Rattle.loom.specs.Model.Settings.{explores}
use Rattle.loom.proofs.ModelLemmas.Shortening.{replay_comes, shortened}
use Rattle.loom.proofs.model.builder.Builder.shorten.Goals as goal

pub run_once-requires-clause-starts : goal.run_once-requires-clause-starts
run_once-requires-clause-starts g c =
    let is = c.in_ok-path.ensures in
    (ap (λ (p : Route). p.position) is, ap (λ (p : Route). p.explores) is, ap (λ (p : Route). p.exploring) is)

pub returns-in-Ended-clause-shortens : goal.returns-in-Ended-clause-shortens
returns-in-Ended-clause-shortens g c = λ kind fails.
    let b = c.args.self.now in
    let tree = runs g.B.Body.next (explores b) b.max_threads b.max_steps c.args.body.now in
    let e = rw c.in-Ended.is at c.in_ok-run_once.ensures.along in
    let comes = replay_comes (explores b) b.max_branches tree c.args.choices.now _ c.run_once.new.path (Ok c.in-Ended.field-0) (run_tree_law g.B.Body.next (explores b) b.max_threads b.max_steps c.args.body.now)
    c.in_ok-path.ensures e in
    cc (comes, fails)

pub shorten_given-requires-clause-fails : goal.shorten_given-requires-clause-fails
shorten_given-requires-clause-fails g c =
    let b = c.args.self.now in
    let tree = runs g.B.Body.next (explores b) b.max_threads b.max_steps c.args.body.now in
    let e = rw c.in-Failed.is at c.in_ok-run_once.ensures.along in
    rw (c.in_ok-to_vec-in-Failed.ensures.items_if_clones_equal (λ x y h. h))
    (replay_comes (explores b) b.max_branches tree c.args.choices.now _ c.run_once.new.path (Err c.in-Failed.failure.kind) (run_tree_law g.B.Body.next (explores b) b.max_threads b.max_steps c.args.body.now)
    c.in_ok-path.ensures e)

pub returns-clause-shortens : goal.returns-clause-shortens
returns-clause-shortens g c =
    let b = c.args.self.now in
    let tree = runs g.B.Body.next (explores b) b.max_threads b.max_steps c.args.body.now in
    let e = rw c.in-Failed.is at c.in_ok-run_once.ensures.along in
    let comes = replay_comes (explores b) b.max_branches tree c.args.choices.now _ c.run_once.new.path (Err c.in-Failed.failure.kind)
    (run_tree_law g.B.Body.next (explores b) b.max_threads b.max_steps c.args.body.now) c.in_ok-path.ensures e in
    let found = c.in_ok-found-in-Failed in
    shortened b tree c.args.choices.now c.in-Failed.failure.kind found.found found.ensures.kind comes found.ensures.fails found.ensures.placed
