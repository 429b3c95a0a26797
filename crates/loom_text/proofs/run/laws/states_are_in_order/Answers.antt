use Rattle.loom_text.proofs.LawLemmas.{order_law}
use Rattle.loom_text.proofs.run.laws.states_are_in_order.Goals as goal

pub returns : goal.returns
returns c = order_law
