use Rattle.std.proofs.Common.{◌≡◌, ◌-◌, [], length, map, All}
use Rattle.loom_text.specs.Heads.{placed, strand, threads_at}
use Rattle.loom_text.specs.Named.{RegistersDiffer}
use Rattle.loom_text.specs.Tokens.{left}
use Rattle.loom_text.proofs.read.parser.Parser.all_threads.Given as goal

-- One thread for each number so far, each with registers of its own names. With what is still read they are what the whole reads.
abbrev pub invariant-loop-number : goal.invariant-loop-number
invariant-loop-number l =
    (length l.threads.items ≡ l.number) × All RegistersDiffer l.threads.items
    × (threads_at (4 - l.number) l.number (map strand l.threads.items) (placed l.places) (left l.self) ≡ threads_at 4 0 [] (placed l.fn.places) (left l.fn.self))
