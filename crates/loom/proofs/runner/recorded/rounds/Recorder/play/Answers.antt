use Rattle.loom.proofs.RunnerLemmas.Rounds.{known_runs}
use Rattle.loom.proofs.runner.recorded.rounds.Recorder.play.Goals as goal

pub returns-in-Ok-clause-known : goal.returns-in-Ok-clause-known
returns-in-Ok-clause-known g c =
    known_runs c.args.self.now.limits c.args.self.now.keeps_locations c.args.self.now.recording c.args.path.now c.play-played.new.path c.in-Ok.known c.in-Ok.ensures.along c.in-Ok.ensures.history c.in-Ok.ensures.located
    c.play-played.ensures.same
