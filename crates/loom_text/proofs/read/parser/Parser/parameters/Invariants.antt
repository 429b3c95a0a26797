use Rattle.std.proofs.Common.{◌≡◌, ◌-◌, length}
use Rattle.loom_text.specs.Heads.{parameters_at, placed}
use Rattle.loom_text.specs.Tokens.{left}
use Rattle.loom_text.proofs.read.parser.Parser.parameters.Given as goal

-- with what is still read it is what the whole reads
abbrev pub invariant-loop : goal.invariant-loop
invariant-loop l =
    let count = length (left l.fn.self).0 in
    parameters_at (count - l.counter) (l.parameters.items, placed l.places) (left l.self)
    ≡ parameters_at count (l.initial.parameters.items, placed l.fn.places) (left l.fn.self)
