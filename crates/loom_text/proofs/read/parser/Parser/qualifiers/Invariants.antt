use Rattle.std.proofs.Common.{◌≡◌, ◌-◌, length}
use Rattle.loom_text.specs.Statements.{unqualified}
use Rattle.loom_text.specs.Tokens.{left}
use Rattle.loom_text.proofs.read.parser.Parser.qualifiers.Given as goal

-- what is left behind the qualifiers stays the same
abbrev pub invariant-loop : goal.invariant-loop
invariant-loop l =
    (unqualified (left l.self).0 ≡ unqualified (left l.fn.self).0)
    × (length (left l.self).0 ≡ length (left l.fn.self).0 - l.counter)
    × ((left l.self).1 ≡ (left l.fn.self).1)
