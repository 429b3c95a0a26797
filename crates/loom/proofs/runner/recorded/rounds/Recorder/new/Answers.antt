use Rattle.loom.proofs.RunnerLemmas.Recorded.{none_is_true}
use Rattle.loom.proofs.runner.recorded.rounds.Recorder.new.Goals as goal

pub returns-in-Ok-new-clause-fresh : goal.returns-in-Ok-new-clause-fresh
returns-in-Ok-new-clause-fresh g c = λ does. none_is_true does c.in-Ok.recording c.in-Ok.ensures.answers c.in-Ok.ensures.places
