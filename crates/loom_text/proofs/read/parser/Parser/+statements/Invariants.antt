use Rattle.std.proofs.Common.{◌≡◌, ◌+◌, ◌-◌, ◌*◌, length}
use Rattle.loom_text.specs.Deeds.{Nothing, deeds}
use Rattle.loom_text.specs.Statements.{standing, statement_at, statements_at}
use Rattle.loom_text.specs.Tokens.{left}
use Rattle.loom_text.proofs.read.parser.Parser.+statements.Given as goal

-- Parts go deeper, and else a function is followed by one that is nearer to a number or a name.
abbrev pub decreases-action : goal.decreases-action
decreases-action l = 8 * l.depth

abbrev pub decreases-statement : goal.decreases-statement
decreases-statement l = 8 * l.depth + 1

abbrev pub decreases-statements : goal.decreases-statements
decreases-statements l = 8 * l.depth + 2

abbrev pub decreases-block : goal.decreases-block
decreases-block l = 8 * l.depth + 3

abbrev pub decreases-branch : goal.decreases-branch
decreases-branch l = 8 * l.depth + 4

abbrev pub decreases-otherwise : goal.decreases-otherwise
decreases-otherwise l = 8 * l.depth + 5

abbrev pub decreases-choice : goal.decreases-choice
decreases-choice l = 8 * l.depth + 6

abbrev pub decreases-repetition : goal.decreases-repetition
decreases-repetition l = 8 * l.depth + 6

abbrev pub decreases-late_repetition : goal.decreases-late_repetition
decreases-late_repetition l = 8 * l.depth + 6

-- with what is still read it is what the whole reads
abbrev pub invariant-statements-loop : goal.invariant-statements-loop
invariant-statements-loop l =
    let one = statement_at l.fn.depth in
    let count = length (left l.fn.self).0 in
    statements_at one (count - l.counter) (deeds l.body.items) (standing l.self l.scope) ≡ statements_at one count Nothing (standing l.fn.self l.fn.scope)
