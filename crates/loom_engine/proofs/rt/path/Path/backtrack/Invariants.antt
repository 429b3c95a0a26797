use Rattle.loom_engine.proofs.Path.Marking.Schedules.{Left}
use Rattle.loom_engine.proofs.rt.path.Path.backtrack.Given as goal

-- with the marks of the threads that are left it has the marks of all
abbrev pub invariant-loop-thread : goal.invariant-loop-thread
invariant-loop-thread l = Left l.fn.self l.places l.thread l.self
