use Rattle.std.proofs.Common.{◌≡◌, length, map}
use Rattle.loom_text.specs.Spelling.{listed}
use Rattle.loom_text.proofs.read.symbol.listed.Given as goal

-- the rest of the table answers as the whole
abbrev pub invariant-loop-table : goal.invariant-loop-table
invariant-loop-table l =
    listed (map (λ row. (row.0.now, row.1)) l.table) l.spelling
    ≡ listed (map (λ row. (row.0.now, row.1)) l.initial.table) l.spelling

abbrev pub decreases-loop-table : goal.decreases-loop-table
decreases-loop-table l = length l.table
