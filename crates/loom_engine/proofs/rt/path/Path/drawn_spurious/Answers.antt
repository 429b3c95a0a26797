use Rattle.loom_engine.proofs.Path.Drawing.{spurious_made}
use Rattle.loom_engine.proofs.rt.path.Path.drawn_spurious.Goals as goal

pub returns-then-exploring : goal.returns-then-exploring
returns-then-exploring g c = rw (← c.is_exploring-exploring.ensures) (spurious_made c.is_exploring-exploring.result _)

pub returns-else-exploring : goal.returns-else-exploring
returns-else-exploring g c = rw (← c.is_exploring-exploring.ensures) (spurious_made c.is_exploring-exploring.result _)
