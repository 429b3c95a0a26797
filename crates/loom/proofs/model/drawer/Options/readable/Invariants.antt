use Rattle.std.proofs.Common.{◌≡◌, ◌≤◌, length}
use Rattle.loom.proofs.model.drawer.Options.readable.Given as goal

-- there are no more than were looked at
abbrev pub invariant-slots : goal.invariant-slots
invariant-slots l = record {
  few : l.count ≤ l.slot;
  size : length l.counts ≡ 7;
}
