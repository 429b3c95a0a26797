use Rattle.loom.proofs.RunnerLemmas.RecordedWorkers.{known_above}
use Rattle.loom.proofs.RunnerLemmas.Rounds.{known_runs}
use Rattle.loom.proofs.runner.recorded.workers.working.make_round.Goals as goal

pub returns : goal.returns
returns g c =
    let known = known_runs c.args.limits c.args.keeps_locations c.args.recording.now c.args.path.now c.play.new.path _ c.in_ok-ending.ensures.along c.in_ok-ending.ensures.history c.in_ok-ending.ensures.located c.play.ensures.same in
    known_above g.V.Visitor.takes c.args.limits c.args.keeps_locations c.args.recording.now c.args.floor c.args.path.now c.play.new.path c.end_above.new.path c.args.visitor.now c.end_above.new.visitor c.in-Some.ending
    c.in_ok-round.round (rw c.in-Some.is at known) c.in_ok-round.ensures
