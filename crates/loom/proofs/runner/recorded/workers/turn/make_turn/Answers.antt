use Rattle.std.proofs.Common.{max, arith}
use Rattle.std.specs.Prelude.{Ok}
use Rattle.loom.proofs.RunnerLemmas.RecordedWorkers.{turn_known}
use Rattle.loom.proofs.RunnerLemmas.Turns.{fewer_fit, turn_within}
use Rattle.loom.proofs.runner.recorded.workers.turn.make_turn.Goals as goal

pub take_back-requires : goal.take_back-requires
take_back-requires g c = record {
  fits = (
    max 1 c.args.workers.slice.runs,
    c.in_ok-done.ensures.within,
    fewer_fit _ c.args.workers.count (max 1 c.args.workers.slice.runs) _ (let e = c.in_ok-done.ensures.len in let f = c.in_ok-jobs.ensures.few in omega (arith, e, f)) c.requires.fits,
  );
}

pub returns-clause-takes : goal.returns-clause-takes
returns-clause-takes g c =
    turn_known g.V.Visitor.takes g.G.Visitors.is_new g.G.Visitors.joins c.args.builder.now c.record_each.new.recorder.recording c.args.parts.now c.take_back.new.parts c.args.visitors.now c.take_back.new.visitors
    c.in_ok-jobs.jobs.items c.in_ok-done.done.items c.in_ok-turn.turn c.in_ok-jobs.ensures.jobs c.in_ok-done.ensures.worked c.in_ok-turn.ensures.takes

pub returns-clause-within : goal.returns-clause-within
returns-clause-within g c =
    turn_within (max 1 c.args.workers.slice.runs) c.args.workers.count _ c.in_ok-done.done.items (Ok c.in_ok-turn.turn) c.in_ok-done.ensures.within c.in_ok-done.ensures.len c.in_ok-jobs.ensures.few c.in_ok-turn.ensures.within
