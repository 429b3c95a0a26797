use Rattle.std.proofs.Common.{◌≡◌, ◌∙◌, ◌<◌, ◌≤◌, ◌∷◌, ◌++◌, [], length, true, false, Some, sym, ap, arith}
use Rattle.std.proofs.lemmas.List.Elements.{All-push}
use Rattle.std.proofs.lemmas.Result.{err_from_is_err_and}
use Rattle.loom_text.proofs.ReadingSteps.{stops_none}
use Rattle.loom_text.proofs.TermSteps.{another_term, last_term, no_term, no_tokens}
use Rattle.loom_text.specs.declared.read.symbol.Symbol.TheVariants as signs
use Rattle.loom_text.specs.Conditions.{places_of, threads_of}
use Rattle.loom_text.specs.Named.{IsTermOf}
use Rattle.loom_text.specs.Question.{listed_term_at}
use Rattle.loom_text.specs.Tokens.{Left, is_next, left, passed}
use Rattle.loom_text.proofs.read.parser.Parser.terms.Goals as goal

pub loop-preserved : goal.loop-preserved
loop-preserved c =
    let locations = places_of c.args.names in
    let threads = threads_of c.args.names in
    let term = c.in_ok-term.term in
    let within : c.loop.counter < length (left c.args.self.now).0 = omega (arith, c.loop-test.true, c.len-end.ensures) in
    let more : is_next signs.CloseBracket (left c.loop.self) ≡ false = grind (arith, c.eat.ensures.found, c.if-eat.false) in
    let still : left c.eat.new.self ≡ left c.loop.self = grind (arith, c.eat.ensures.left, c.if-eat.false) in
    let read : listed_term_at locations threads (left c.loop.self) ≡ Some (term, left c.listed_term.new.self) = rw (sym still) c.in_ok-term.ensures.read in
    let pushed : c.push.new.self.items ≡ c.loop.listed.items ++ term ∷ [] = c.in_ok-push.ensures.items in
    rw pushed (
      (λ all. All-push (IsTermOf c.args.names.locations.now c.args.names.threads.now) c.loop.listed.items term (c.loop.invariant.0 all) c.in_ok-term.ensures.named),
      another_term locations threads (length (left c.args.self.now).0) c.loop.counter c.loop.listed.items (left c.loop.self) (left c.listed_term.new.self) term _
          within more read c.loop.invariant.1,
    )

pub returns-in_err-term-clause-read : goal.returns-in_err-term-clause-read
returns-in_err-term-clause-read c =
    let locations = places_of c.args.names in
    let threads = threads_of c.args.names in
    let within : c.loop.counter < length (left c.args.self.now).0 = omega (arith, c.loop-test.true, c.len-end.ensures) in
    let more : is_next signs.CloseBracket (left c.loop.self) ≡ false = grind (arith, c.eat.ensures.found, c.if-eat.false) in
    let still : left c.eat.new.self ≡ left c.loop.self = grind (arith, c.eat.ensures.left, c.if-eat.false) in
    let p = err_from_is_err_and c.from_residual.result c.from_residual.ensures.1 in
    rw (p.1, p.2) (no_term locations threads c.in_err-term.field-0.0 (length (left c.args.self.now).0) c.loop.counter c.loop.listed.items (left c.loop.self) _
    within more (rw (sym still) c.in_err-term.ensures.read) c.loop.invariant.1)

pub returns-then-eat-clause-read : goal.returns-then-eat-clause-read
returns-then-eat-clause-read c =
    let within : c.loop.counter < length (left c.args.self.now).0 = omega (arith, c.loop-test.true, c.len-end.ensures) in
    let last : is_next signs.CloseBracket (left c.loop.self) ≡ true = grind (arith, c.eat.ensures.found, c.if-eat.true) in
    let moved : left c.eat.new.self ≡ passed (left c.loop.self) = grind (arith, c.eat.ensures.left, c.if-eat.true) in
    last_term (places_of c.args.names) (threads_of c.args.names) (length (left c.args.self.now).0) c.loop.counter c.loop.listed.items (left c.loop.self) _ within last c.loop.invariant.1
    ∙ ap (λ (behind : Left). Some (c.loop.listed.items, behind)) (sym moved)

pub returns-clause-read : goal.returns-clause-read
returns-clause-read c =
    let over : length (left c.args.self.now).0 ≤ c.loop.counter = omega (arith, c.loop-test.false, c.len-end.ensures) in
    stops_none c.expected.result _
    (no_tokens (places_of c.args.names) (threads_of c.args.names) (length (left c.args.self.now).0) c.loop.counter c.loop.listed.items (left c.loop.self) _ over c.loop.invariant.1)
