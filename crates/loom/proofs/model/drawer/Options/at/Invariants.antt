use Rattle.std.proofs.Common.{◌≤◌}
use Rattle.loom.proofs.model.drawer.Options.at.Given as goal

-- it is no more than were looked at
abbrev pub invariant-numbers : goal.invariant-numbers
invariant-numbers l = record {
  few : l.option ≤ l.number;
}
