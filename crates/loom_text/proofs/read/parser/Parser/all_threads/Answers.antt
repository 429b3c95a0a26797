use Rattle.std.proofs.Common.{◌≡◌, ◌∙◌, ◌+◌, ◌-◌, ◌∷◌, [], ◌<◌, ◌≤◌, List, length-append, map, true, false, ap, sym, arith}
use Rattle.std.proofs.lemmas.List.Elements.{All-push}
use Rattle.std.proofs.lemmas.Result.{err_from_is_err_and}
use Rattle.loom_text.proofs.HeadSteps.{all_there, another_thread, no_thread, no_thread_more, one_strand_more, too_many}
use Rattle.loom_text.specs.Heads.{Strand, placed, strand, threads_at, threads_end}
use Rattle.loom_text.specs.Named.{RegistersDiffer}
use Rattle.loom_text.specs.Tokens.{left}
use Rattle.loom_text.proofs.read.parser.Parser.all_threads.Goals as goal

pub returns-then-threads_end-clause-read : goal.returns-then-threads_end-clause-read
returns-then-threads_end-clause-read c =
    let i = c.loop-number.number in
    let lt : i < 4 = omega (arith, c.loop-number-test.true) in
    let last : threads_end i (left c.loop-number.self) ≡ true = sym c.threads_end.ensures ∙ c.if-threads_end.true in
    no_thread_more i (map strand c.loop-number.threads.items) (placed c.loop-number.places) (left c.loop-number.self) _ c.loop-number.invariant.2 lt last

pub returns-in_err-thread-clause-read : goal.returns-in_err-thread-clause-read
returns-in_err-thread-clause-read c =
    let i = c.loop-number.number in
    let lt : i < 4 = omega (arith, c.loop-number-test.true) in
    let more : threads_end i (left c.loop-number.self) ≡ false = sym c.threads_end.ensures ∙ c.if-threads_end.false in
    let p = err_from_is_err_and c.from_residual.result c.from_residual.ensures.1 in
    rw (p.1, p.2) (no_thread i (map strand c.loop-number.threads.items) (placed c.loop-number.places) (left c.loop-number.self) _ c.loop-number.invariant.2 lt more c.in_err-thread.field-0.0 c.in_err-thread.ensures.read)

pub loop-number-preserved : goal.loop-number-preserved
loop-number-preserved c =
    let i = c.loop-number.number in
    let lt : i < 4 = omega (arith, c.loop-number-test.true) in
    let more : threads_end i (left c.loop-number.self) ≡ false = sym c.threads_end.ensures ∙ c.if-threads_end.false in
    let threads = c.loop-number.threads.items in
    let thread = c.in_ok-thread.thread in
    let many = length-append threads (thread ∷ []) in
    let longer = c.loop-number.invariant.0 in
    rw c.in_ok-push.ensures.items (
      omega (arith, many, longer),
      All-push RegistersDiffer threads thread c.loop-number.invariant.1 c.in_ok-thread.ensures.registers,
      ap (λ (ss : List Strand). threads_at (4 - (i + 1)) (i + 1) ss (placed c.numbered_thread.new.places) (left c.numbered_thread.new.self)) (one_strand_more threads thread)
          ∙ another_thread i (map strand threads) (placed c.loop-number.places) (left c.loop-number.self) _ c.loop-number.invariant.2 lt more (strand thread) (placed c.numbered_thread.new.places) (left c.numbered_thread.new.self)
          c.in_ok-thread.ensures.read,
    )

pub returns-in_err-no_more_threads-clause-read : goal.returns-in_err-no_more_threads-clause-read
returns-in_err-no_more_threads-clause-read c =
    let over : 4 ≤ c.loop-number.number = omega (arith, c.loop-number-test.false) in
    let p = err_from_is_err_and c.from_residual-in_err-no_more_threads.result c.from_residual-in_err-no_more_threads.ensures.1 in
    rw (p.1, p.2) (too_many c.loop-number.number (map strand c.loop-number.threads.items) (placed c.loop-number.places) (left c.loop-number.self) _ c.loop-number.invariant.2
    c.in_err-no_more_threads.field-0.0 over c.in_err-no_more_threads.ensures)

pub returns-clause-read : goal.returns-clause-read
returns-clause-read c =
    let over : 4 ≤ c.loop-number.number = omega (arith, c.loop-number-test.false) in
    all_there c.loop-number.number (map strand c.loop-number.threads.items) (placed c.loop-number.places) (left c.loop-number.self) _ c.loop-number.invariant.2 over c.in_ok-no_more_threads.ensures
