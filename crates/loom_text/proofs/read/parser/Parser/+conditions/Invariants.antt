use Rattle.std.proofs.Common.{◌≡◌, ◌+◌, ◌-◌, ◌*◌}
use Rattle.loom_text.specs.Conditions.{Both, Either, conjunction_of, disjunction_of, formula, joined_at, part_at, places_of, threads_of}
use Rattle.loom_text.specs.Named.{IsConditionOf}
use Rattle.loom_text.specs.Tokens.{left}
use Rattle.loom_text.specs.declared.read.symbol.Symbol.TheVariants as signs
use Rattle.loom_text.proofs.read.parser.Parser.+conditions.Given as goal

-- Parts go deeper, and else a function is followed by one that is nearer to a number or a name.
abbrev pub decreases-disjunction : goal.decreases-disjunction
decreases-disjunction l = 4 * l.depth + 2

abbrev pub decreases-conjunction : goal.decreases-conjunction
decreases-conjunction l = 4 * l.depth + 1

abbrev pub decreases-negation : goal.decreases-negation
decreases-negation l = 4 * l.depth

-- what was read is of the test, and with what is still read it is what the whole reads
abbrev pub invariant-disjunction-loop : goal.invariant-disjunction-loop
invariant-disjunction-loop l =
    let part = part_at (places_of l.fn.names) (threads_of l.fn.names) l.fn.depth in
    IsConditionOf l.fn.names.locations.now l.fn.names.threads.now l.left
    × (joined_at signs.Disjunction Either (conjunction_of part) (257 - l.counter) (formula l.left) (left l.self) ≡ disjunction_of part (left l.fn.self))

abbrev pub invariant-conjunction-loop : goal.invariant-conjunction-loop
invariant-conjunction-loop l =
    let part = part_at (places_of l.fn.names) (threads_of l.fn.names) l.fn.depth in
    IsConditionOf l.fn.names.locations.now l.fn.names.threads.now l.left
    × (joined_at signs.Conjunction Both part (257 - l.counter) (formula l.left) (left l.self) ≡ conjunction_of part (left l.fn.self))
