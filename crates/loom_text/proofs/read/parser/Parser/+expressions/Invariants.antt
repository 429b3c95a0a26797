use Rattle.std.proofs.Common.{◌≡◌, ◌+◌, ◌-◌, ◌*◌}
use Rattle.loom_text.specs.Expressions.{inside, many_with, operators_at, phrase}
use Rattle.loom_text.specs.Known.{known}
use Rattle.loom_text.specs.Tokens.{left}
use Rattle.loom_text.proofs.read.parser.Parser.+expressions.Given as goal

-- Parts go deeper, and else a function is followed by one that is nearer to a number or a name.
abbrev pub decreases-binary : goal.decreases-binary
decreases-binary l = 8 * l.depth + 3

abbrev pub decreases-unary : goal.decreases-unary
decreases-unary l = 8 * l.depth + 2

abbrev pub decreases-primary : goal.decreases-primary
decreases-primary l = 8 * l.depth + 1

abbrev pub decreases-call : goal.decreases-call
decreases-call l = 8 * l.depth + 7

abbrev pub decreases-arguments : goal.decreases-arguments
decreases-arguments l = 8 * l.depth + 6

abbrev pub decreases-enclosed : goal.decreases-enclosed
decreases-enclosed l = 8 * l.depth

abbrev pub decreases-signed : goal.decreases-signed
decreases-signed l = 8 * l.depth

abbrev pub decreases-exchange : goal.decreases-exchange
decreases-exchange l = 8 * l.depth + 5

abbrev pub decreases-fetch : goal.decreases-fetch
decreases-fetch l = 8 * l.depth + 5

abbrev pub decreases-compare_exchange : goal.decreases-compare_exchange
decreases-compare_exchange l = 8 * l.depth + 5

abbrev pub decreases-boxed_argument : goal.decreases-boxed_argument
decreases-boxed_argument l = 8 * l.depth + 4

abbrev pub decreases-compared : goal.decreases-compared
decreases-compared l = 8 * l.depth + 4

-- what was read is, with what is still read, what the whole reads
abbrev pub invariant-binary-loop : goal.invariant-binary-loop
invariant-binary-loop l =
    let within = inside (known l.fn.scope) l.fn.depth in
    operators_at within l.fn.lowest (257 - l.counter) (phrase l.left) (left l.self) ≡ many_with (known l.fn.scope) within l.fn.lowest (left l.fn.self)
