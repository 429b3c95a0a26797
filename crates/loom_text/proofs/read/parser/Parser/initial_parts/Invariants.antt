use Rattle.std.proofs.Common.{◌≡◌, ◌-◌, length}
use Rattle.loom_text.specs.Heads.{initial_parts_at, placed}
use Rattle.loom_text.specs.Tokens.{left}
use Rattle.loom_text.proofs.read.parser.Parser.initial_parts.Given as goal

-- with what is still read it is what the whole reads
abbrev pub invariant-loop : goal.invariant-loop
invariant-loop l =
    let count = length (left l.fn.self).0 in
    initial_parts_at (count - l.counter) (placed l.places) (left l.self) ≡ initial_parts_at count (placed l.fn.places) (left l.fn.self)
