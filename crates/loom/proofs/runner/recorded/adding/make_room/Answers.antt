use Rattle.std.proofs.Common.{[], ◌∷◌}
use Rattle.loom.proofs.RunnerLemmas.Recorded.{none_is_true}
use Rattle.loom.proofs.runner.recorded.adding.make_room.Goals as goal

pub returns-clause-stays : goal.returns-clause-stays
returns-clause-stays g c = λ does words z. ([] ∷ [], none_is_true does c.in-Ok.fresh c.in-Ok.ensures.answers c.in-Ok.ensures.places)
