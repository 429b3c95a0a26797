use Rattle.std.proofs.Common.{◌≡◌, ◌-◌, length}
use Rattle.loom_text.specs.Deeds.{deeds}
use Rattle.loom_text.specs.Statements.{all_declared, standing}
use Rattle.loom_text.specs.Tokens.{left}
use Rattle.loom_text.proofs.read.parser.Parser.all_declared.Given as goal

-- with what is still read it is what the whole reads
abbrev pub invariant-loop : goal.invariant-loop
invariant-loop l =
    let count = length (left l.fn.self).0 in
    all_declared (count - l.counter) (deeds l.body.items) (standing l.self l.scope) ≡ all_declared count (deeds l.initial.body.items) (standing l.fn.self l.fn.scope)
