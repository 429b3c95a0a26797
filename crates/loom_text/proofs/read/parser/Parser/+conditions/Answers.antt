use Rattle.std.proofs.Common.{◌≡◌, Some, sym}
use Rattle.std.proofs.lemmas.Result.{err_from_is_err_and}
use Rattle.loom_text.proofs.ReadingSteps.{denied_as, eaten, eaten_behind, enclosed_as, goes_on, not_closed, not_denied, not_eaten, not_enclosed, stopped}
use Rattle.loom_text.specs.Conditions.{Both, Either, conjunction_of, formula, part_at, places_of, threads_of}
use Rattle.loom_text.specs.Tokens.{left, passed}
use Rattle.loom_text.specs.declared.read.symbol.Symbol.TheVariants as signs
use Rattle.loom_text.proofs.read.parser.Parser.+conditions.Goals as goal

pub conjunction-loop-preserved : goal.conjunction-loop-preserved
conjunction-loop-preserved t c =
    let part = part_at (places_of c.args.names) (threads_of c.args.names) c.args.depth in
    let sign = eaten c.eat.result signs.Conjunction (left c.loop.self) (left c.eat.new.self) c.eat.ensures.found c.eat.ensures.left c.if-not-eat.false in
    let first : c.in_ok-first.first.value ≡ c.loop.left = c.in_ok-first.ensures.ok in
    let second : c.in_ok-second.second.value ≡ c.in_ok-right.right = c.in_ok-second.ensures.ok in
    let again : part (passed (left c.loop.self)) ≡ Some (formula c.in_ok-right.right, left c.negation-in-loop.new.self) = rw (sym sign.1) c.in_ok-right.ensures.read in
    rw (first, second) (
      (c.loop.invariant.0, c.in_ok-right.ensures.named),
      goes_on signs.Conjunction Both part 257 c.loop.counter (formula c.loop.left) (formula c.in_ok-right.right) (left c.loop.self) _ _ c.loop-test.true sign.0 again c.loop.invariant.1,
    )

pub conjunction-returns-in_err-right-clause-read : goal.conjunction-returns-in_err-right-clause-read
conjunction-returns-in_err-right-clause-read t c =
    let part = part_at (places_of c.args.names) (threads_of c.args.names) c.args.depth in
    let sign = eaten c.eat.result signs.Conjunction (left c.loop.self) (left c.eat.new.self) c.eat.ensures.found c.eat.ensures.left c.if-not-eat.false in
    let p = err_from_is_err_and c.from_residual-in_err-right.result c.from_residual-in_err-right.ensures.1 in
    rw (p.1, p.2) (stopped c.in_err-right.field-0.0 signs.Conjunction Both part 257 c.loop.counter (formula c.loop.left) (left c.loop.self) _ c.loop-test.true sign.0
    (rw (sym sign.1) c.in_err-right.ensures.read) c.loop.invariant.1)

pub disjunction-loop-preserved : goal.disjunction-loop-preserved
disjunction-loop-preserved t c =
    let part = part_at (places_of c.args.names) (threads_of c.args.names) c.args.depth in
    let sign = eaten c.eat.result signs.Disjunction (left c.loop.self) (left c.eat.new.self) c.eat.ensures.found c.eat.ensures.left c.if-not-eat.false in
    let first : c.in_ok-first.first.value ≡ c.loop.left = c.in_ok-first.ensures.ok in
    let second : c.in_ok-second.second.value ≡ c.in_ok-right.right = c.in_ok-second.ensures.ok in
    let again : (conjunction_of part) (passed (left c.loop.self)) ≡ Some (formula c.in_ok-right.right, left c.conjunction-in-loop.new.self) = rw (sym sign.1) c.in_ok-right.ensures.read in
    rw (first, second) (
      (c.loop.invariant.0, c.in_ok-right.ensures.named),
      goes_on signs.Disjunction Either (conjunction_of part) 257 c.loop.counter (formula c.loop.left) (formula c.in_ok-right.right) (left c.loop.self) _ _ c.loop-test.true sign.0 again c.loop.invariant.1,
    )

pub disjunction-returns-in_err-right-clause-read : goal.disjunction-returns-in_err-right-clause-read
disjunction-returns-in_err-right-clause-read t c =
    let part = part_at (places_of c.args.names) (threads_of c.args.names) c.args.depth in
    let sign = eaten c.eat.result signs.Disjunction (left c.loop.self) (left c.eat.new.self) c.eat.ensures.found c.eat.ensures.left c.if-not-eat.false in
    let p = err_from_is_err_and c.from_residual-in_err-right.result c.from_residual-in_err-right.ensures.1 in
    rw (p.1, p.2) (stopped c.in_err-right.field-0.0 signs.Disjunction Either (conjunction_of part) 257 c.loop.counter (formula c.loop.left) (left c.loop.self) _ c.loop-test.true sign.0
    (rw (sym sign.1) c.in_err-right.ensures.read) c.loop.invariant.1)

pub negation-returns-in_err-condition-clause-read : goal.negation-returns-in_err-condition-clause-read
negation-returns-in_err-condition-clause-read t c =
    let tilde = eaten c.eat.result signs.Tilde (left c.args.self.now) (left c.eat.new.self) c.eat.ensures.found c.eat.ensures.left c.if-eat.true in
    let p = err_from_is_err_and c.from_residual-in_err-condition.result c.from_residual-in_err-condition.ensures.1 in
    rw (p.1, p.2) (not_denied c.in_err-condition.field-0.0 (places_of c.args.names) (threads_of c.args.names) c.in_ok-inside.inside c.args.depth (left c.args.self.now) c.in_ok-inside.ensures.ok tilde.0
    (rw (sym tilde.1) c.in_err-condition.ensures.read))

pub negation-returns-then-eat-clause-read : goal.negation-returns-then-eat-clause-read
negation-returns-then-eat-clause-read t c =
    let tilde = eaten c.eat.result signs.Tilde (left c.args.self.now) (left c.eat.new.self) c.eat.ensures.found c.eat.ensures.left c.if-eat.true in
    let boxed : c.in_ok-new.field-0.value ≡ c.in_ok-condition.condition = c.in_ok-new.ensures.ok in
    rw boxed (denied_as (places_of c.args.names) (threads_of c.args.names) c.in_ok-inside.inside c.args.depth (left c.args.self.now) (left c.negation.new.self) (formula c.in_ok-condition.condition) c.in_ok-inside.ensures.ok tilde.0
    (rw (sym tilde.1) c.in_ok-condition.ensures.read))

pub negation-returns-in_err-condition-2-clause-read : goal.negation-returns-in_err-condition-2-clause-read
negation-returns-in_err-condition-2-clause-read t c =
    let tilde = not_eaten c.eat.result signs.Tilde (left c.args.self.now) (left c.eat.new.self) c.eat.ensures.found c.eat.ensures.left c.if-eat.false in
    let parenthesis = eaten_behind c.eat-2.result signs.OpenParenthesis (left c.args.self.now) (left c.eat.new.self) (left c.eat-2.new.self) tilde.1 c.eat-2.ensures.found c.eat-2.ensures.left c.if-eat-2.true in
    let p = err_from_is_err_and c.from_residual-in_err-condition-2.result c.from_residual-in_err-condition-2.ensures.1 in
    rw (p.1, p.2) (not_enclosed c.in_err-condition-2.field-0.0 (places_of c.args.names) (threads_of c.args.names) c.in_ok-inside-2.inside c.args.depth (left c.args.self.now) c.in_ok-inside-2.ensures.ok tilde.0 parenthesis.0
    (rw (sym parenthesis.1) c.in_err-condition-2.ensures.read))

pub negation-returns-in_err-expect-clause-read : goal.negation-returns-in_err-expect-clause-read
negation-returns-in_err-expect-clause-read t c =
    let tilde = not_eaten c.eat.result signs.Tilde (left c.args.self.now) (left c.eat.new.self) c.eat.ensures.found c.eat.ensures.left c.if-eat.false in
    let parenthesis = eaten_behind c.eat-2.result signs.OpenParenthesis (left c.args.self.now) (left c.eat.new.self) (left c.eat-2.new.self) tilde.1 c.eat-2.ensures.found c.eat-2.ensures.left c.if-eat-2.true in
    let p = err_from_is_err_and c.from_residual-in_err-expect.result c.from_residual-in_err-expect.ensures.1 in
    rw (p.1, p.2) (not_closed c.in_err-expect.field-0.0 (places_of c.args.names) (threads_of c.args.names) c.in_ok-inside-2.inside c.args.depth (left c.args.self.now) (left c.disjunction.new.self) (formula c.in_ok-condition-2.condition)
    c.in_ok-inside-2.ensures.ok tilde.0 parenthesis.0 (rw (sym parenthesis.1) c.in_ok-condition-2.ensures.read) c.in_err-expect.ensures)

pub negation-returns-then-eat-2-clause-read : goal.negation-returns-then-eat-2-clause-read
negation-returns-then-eat-2-clause-read t c =
    let tilde = not_eaten c.eat.result signs.Tilde (left c.args.self.now) (left c.eat.new.self) c.eat.ensures.found c.eat.ensures.left c.if-eat.false in
    let parenthesis = eaten_behind c.eat-2.result signs.OpenParenthesis (left c.args.self.now) (left c.eat.new.self) (left c.eat-2.new.self) tilde.1 c.eat-2.ensures.found c.eat-2.ensures.left c.if-eat-2.true in
    enclosed_as (places_of c.args.names) (threads_of c.args.names) c.in_ok-inside-2.inside c.args.depth (left c.args.self.now) (left c.disjunction.new.self) (left c.expect.new.self) (formula c.in_ok-condition-2.condition)
    c.in_ok-inside-2.ensures.ok tilde.0 parenthesis.0 (rw (sym parenthesis.1) c.in_ok-condition-2.ensures.read) c.in_ok-expect.ensures
