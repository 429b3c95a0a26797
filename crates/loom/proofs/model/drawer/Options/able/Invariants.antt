use Rattle.std.proofs.Common.{◌≡◌, ◌≤◌, length}
use Rattle.loom.proofs.model.drawer.Options.able.Given as goal

-- there are no more than were looked at
abbrev pub invariant-threads : goal.invariant-threads
invariant-threads l = record {
  few : l.count ≤ l.thread;
  size : length l.counts ≡ 7;
}
