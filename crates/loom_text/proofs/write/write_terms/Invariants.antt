use Rattle.std.proofs.Common.{◌≡◌, ◌++◌, take, codes, string_bytes}
use Rattle.std.specs.List.{flat_map}
use Rattle.loom_text.specs.Printing.{places_in, printed_term, text_of, threads_in}
use Rattle.loom_text.proofs.write.write_terms.Given as goal

-- the terms so far, each with a semicolon behind it
abbrev pub invariant-loop-term : goal.invariant-loop-term
invariant-loop-term l =
    string_bytes l.text ≡ string_bytes l.initial.text
    ++ flat_map (λ term. text_of (printed_term (places_in l.fn.test) (threads_in l.fn.test) term) ++ codes ";") (take l.term-index l.fn.test.listed.items)
