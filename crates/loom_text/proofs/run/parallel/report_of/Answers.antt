use Rattle.loom_text.proofs.run.parallel.report_of.Goals as goal
use Rattle.loom_text.proofs.run.parallel.report_of.Goals.{in-Complete, in-Stopped+in_ok-to_text-in-Stopped, in-Failed}

pub returns : goal.returns
returns c = elim c.match-found.branch [
  | in-Complete w ↦ rw w.in-Complete.is w.result-is
  | in-Stopped+in_ok-to_text-in-Stopped w ↦ rw w.in-Stopped.is (_, w.result-is)
  | in-Failed w ↦ rw w.in-Failed.is w.result-is
]
