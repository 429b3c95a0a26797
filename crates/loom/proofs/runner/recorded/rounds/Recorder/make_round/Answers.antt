use Rattle.std.specs.Fn.{CalledAtMut}
use Rattle.loom.proofs.RunnerLemmas.Rounds.{makes_round, round_goes}
use Rattle.loom.proofs.runner.recorded.rounds.Recorder.make_round.Goals as goal

pub returns-in-Ok-clause-goes : goal.returns-in-Ok-clause-goes
returns-in-Ok-clause-goes g c = λ next.
    round_goes g.V.Visitor.takes c.args.self.now.limits c.args.path.now c.make_run.new.path c.end_round.new.path c.args.visitor.now c.end_round.new.visitor c.in_ok-ending.ending c.in-Ok.round
    c.in_ok-ending.ensures.makes.known.history c.in-Ok.ensures next

pub returns-in-Ok-clause-makes : goal.returns-in-Ok-clause-makes
returns-in-Ok-clause-makes g c =
    makes_round (CalledAtMut g.F.FnMut) g.V.Visitor.takes c.args.self.now.limits c.args.self.now.keeps_locations c.args.path.now c.args.closure.now c.args.visitor.now c.args.self.now.recording c.in_ok-ending.ending
    c.make_run.new.path c.in-Ok.round c.end_round.new.path c.make_run.new.closure c.end_round.new.visitor c.make_run.new.self.recording c.in_ok-ending.ensures.makes c.in-Ok.ensures
