use Rattle.loom_engine.proofs.Parts.Options.{HasPassed, left_at}
use Rattle.loom_engine.proofs.rt.path.opening.openings.Given as goal

abbrev pub invariant-options : goal.invariant-options
invariant-options l = HasPassed l.node l.last l.list.items

abbrev pub decreases-options : goal.decreases-options
decreases-options l = left_at l.last
