use Rattle.std.proofs.Common.{◌≡◌, ◌∙◌, ◌<◌, ◌≤◌, length, Option, Some, ap, subst, sym, arith}
use Rattle.std.proofs.lemmas.Result.{err_from_is_err_and}
use Rattle.loom_text.proofs.ReadingSteps.{eaten, not_eaten, stops_none}
use Rattle.loom_text.proofs.StatementSteps.{another, brace, no_statement, over, statement_is}
use Rattle.loom_text.specs.declared.read.symbol.Symbol.TheVariants as signs
use Rattle.loom_text.specs.Deeds.{Deeds, deeds}
use Rattle.loom_text.specs.Statements.{Adds, Standing, moved, standing, statement_at, statement_with, within}
use Rattle.loom_text.specs.Tokens.{Left, Stops, left}
use Rattle.loom_text.proofs.read.parser.Parser.+statements.Goals as goal

pub statements-returns-then-eat : goal.statements-returns-then-eat
statements-returns-then-eat t c =
    let count = length (left c.args.self.now).0 in
    let lt : c.loop.counter < count = omega (arith, c.loop-test.true, c.len-end.ensures) in
    let done = deeds c.loop.body.items in
    let old = standing c.loop.self c.loop.scope in
    let last = eaten c.eat.result signs.CloseBrace (left c.loop.self) (left c.eat.new.self) c.eat.ensures.found c.eat.ensures.left c.if-eat.true in
    let whole : Left → Option (Deeds × Standing) = λ l. Some (done, moved l old) in
    brace (statement_at c.args.depth) count c.loop.counter done old _ c.loop.invariant lt last.0 ∙ ap whole (sym last.1)

pub statements-returns-in_err-statement : goal.statements-returns-in_err-statement
statements-returns-in_err-statement t c =
    let count = length (left c.args.self.now).0 in
    let lt : c.loop.counter < count = omega (arith, c.loop-test.true, c.len-end.ensures) in
    let done = deeds c.loop.body.items in
    let old = standing c.loop.self c.loop.scope in
    let more = not_eaten c.eat.result signs.CloseBrace (left c.loop.self) (left c.eat.new.self) c.eat.ensures.found c.eat.ensures.left c.if-eat.false in
    let alike : statement_with (within c.args.depth) done (moved (left c.eat.new.self) old) ≡ statement_at c.args.depth done old =
    ap (λ (l : Left). statement_with (within c.args.depth) done (moved l old)) more.1 ∙ ap (λ (one : Adds). one done old) (sym (statement_is c.args.depth)) in
    let p = err_from_is_err_and c.from_residual.result c.from_residual.ensures.1 in
    rw (p.1, p.2) (no_statement (statement_at c.args.depth) count c.loop.counter done old _ c.loop.invariant lt more.0 c.in_err-statement.field-0.0
    (subst (λ (o : Option (Deeds × Standing)). Stops c.in_err-statement.field-0.0 o) alike c.in_err-statement.ensures))

pub statements-loop-preserved : goal.statements-loop-preserved
statements-loop-preserved t c =
    let count = length (left c.args.self.now).0 in
    let lt : c.loop.counter < count = omega (arith, c.loop-test.true, c.len-end.ensures) in
    let done = deeds c.loop.body.items in
    let old = standing c.loop.self c.loop.scope in
    let more = not_eaten c.eat.result signs.CloseBrace (left c.loop.self) (left c.eat.new.self) c.eat.ensures.found c.eat.ensures.left c.if-eat.false in
    let alike : statement_with (within c.args.depth) done (moved (left c.eat.new.self) old) ≡ statement_at c.args.depth done old =
    ap (λ (l : Left). statement_with (within c.args.depth) done (moved l old)) more.1 ∙ ap (λ (one : Adds). one done old) (sym (statement_is c.args.depth)) in
    another (statement_at c.args.depth) count c.loop.counter done old _ c.loop.invariant lt more.0 (deeds c.statement.new.body.items) (standing c.statement.new.self c.statement.new.scope)
    (sym alike ∙ c.in_ok-statement.ensures)

pub statements-returns : goal.statements-returns
statements-returns t c =
    let count = length (left c.args.self.now).0 in
    let no_more : count ≤ c.loop.counter = omega (arith, c.loop-test.false, c.len-end.ensures) in
    stops_none c.expected.result _ (over (statement_at c.args.depth) count c.loop.counter (deeds c.loop.body.items) (standing c.loop.self c.loop.scope) _ c.loop.invariant no_more)
