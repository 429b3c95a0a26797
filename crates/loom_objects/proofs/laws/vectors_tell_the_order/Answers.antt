use Rattle.loom_objects.proofs.Dependence.Told.{vector_law}
use Rattle.loom_objects.proofs.laws.vectors_tell_the_order.Goals as goal

pub returns : goal.returns
returns c = vector_law
