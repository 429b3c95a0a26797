use Rattle.std.proofs.Common.{max, arith}
use Rattle.loom_engine.specs.Runs.Body.{runs}
use Rattle.loom_engine.proofs.Runs.Bodies.{run_tree_law}
use Rattle.loom.specs.Model.Settings.{explores}
use Rattle.loom.proofs.RunnerLemmas.Turns.{fewer_fit, turn_taken, turn_within}
use Rattle.loom.proofs.runner.parallel.round.make_turn.Goals as goal

pub take_back-requires : goal.take_back-requires
take_back-requires g c = record {
  fits = (
    max 1 c.args.workers.slice.runs,
    c.in_ok-done.ensures.within,
    fewer_fit _ c.args.workers.count (max 1 c.args.workers.slice.runs) _ (let e = c.in_ok-done.ensures.len in let f = c.in_ok-jobs.ensures.few in omega (arith, e, f)) c.requires.fits,
  );
}

pub returns-clause-takes : goal.returns-clause-takes
returns-clause-takes g c =
    let b = c.args.builder.now in
    let tree = runs g.B.Body.next (explores b) b.max_threads b.max_steps c.args.body.now in
    let sound = run_tree_law g.B.Body.next (explores b) b.max_threads b.max_steps c.args.body.now in
    turn_taken g.V.Visitor.takes g.G.Visitors.is_new g.G.Visitors.joins b tree sound c.args.parts.now c.take_back.new.parts c.args.visitors.now c.take_back.new.visitors c.in_ok-jobs.jobs.items c.in_ok-done.done.items
    c.take_back.result c.in_ok-jobs.ensures.jobs c.in_ok-done.ensures.worked c.take_back.ensures.takes

pub returns-clause-within : goal.returns-clause-within
returns-clause-within g c =
    turn_within (max 1 c.args.workers.slice.runs) c.args.workers.count _ c.in_ok-done.done.items c.take_back.result c.in_ok-done.ensures.within c.in_ok-done.ensures.len c.in_ok-jobs.ensures.few c.take_back.ensures.within
