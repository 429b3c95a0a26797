use Rattle.loom_engine.specs.Path.Words.{statuses_in}
use Rattle.loom_engine.proofs.Path.Nodes.First.{IsFirst}
use Rattle.loom_engine.proofs.rt.path.word.drawn_thread.Given as goal

-- the first thread so far that is active, if one is
abbrev pub invariant-threads : goal.invariant-threads
invariant-threads l = IsFirst (statuses_in l.word) l.place l.thread l.is_found
