use Rattle.std.proofs.Common.{◌+◌, ◌≤◌, ◌≡◌, take}
use Rattle.std.specs.Prelude.{fold}
use Rattle.loom_text.specs.Place.{next_column}
use Rattle.loom_text.proofs.error.column_behind.Given as goal

-- the column behind the bytes so far
abbrev pub invariant-loop-byte : goal.invariant-loop-byte
invariant-loop-byte l = record {
  column : l.column ≡ fold next_column 1 (take l.byte-index l.before);
  small : l.column ≤ l.byte-index + 1;
}
