use Rattle.std.proofs.Common.{◌≡◌, ◌-◌, length, All}
use Rattle.loom_text.specs.Conditions.{places_of, threads_of}
use Rattle.loom_text.specs.Named.{IsTermOf}
use Rattle.loom_text.specs.Question.{terms_at}
use Rattle.loom_text.specs.Tokens.{left}
use Rattle.loom_text.proofs.read.parser.Parser.terms.Given as goal

-- what is added is of the test, and with what is still read it is what the whole reads
abbrev pub invariant-loop : goal.invariant-loop
invariant-loop l =
    let locations = l.fn.names.locations.now in
    let threads = l.fn.names.threads.now in
    let count = length (left l.fn.self).0 in
    (All (IsTermOf locations threads) l.initial.listed.items → All (IsTermOf locations threads) l.listed.items)
    × (terms_at (places_of l.fn.names) (threads_of l.fn.names) (count - l.counter) l.listed.items (left l.self) ≡ terms_at (places_of l.fn.names) (threads_of l.fn.names) count l.initial.listed.items (left l.fn.self))
