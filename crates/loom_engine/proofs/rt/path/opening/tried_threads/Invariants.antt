use Rattle.loom_engine.proofs.Parts.Tried.{AreUpto}
use Rattle.loom_engine.proofs.rt.path.opening.tried_threads.Given as goal

abbrev pub invariant-loop-thread : goal.invariant-loop-thread
invariant-loop-thread l = AreUpto l.schedule.first l.schedule.statuses l.thread l.list.items
