use Rattle.std.proofs.Common.{◌≡◌, ◌∙◌, ◌+◌, ◌-◌, ◌<◌, ◌≤◌, length, Option, Some, ap, sym, arith}
use Rattle.std.proofs.lemmas.Result.{err_from_is_err_and}
use Rattle.loom_text.proofs.ReadingSteps.{eaten, not_eaten, stops_none}
use Rattle.loom_text.proofs.StatementSteps.{ended, no_tokens, not_declared, not_ended, one_behind, one_more}
use Rattle.loom_text.specs.declared.read.symbol.Symbol.TheVariants as signs
use Rattle.loom_text.specs.Deeds.{Deeds, Nothing, Then, deed, deeds}
use Rattle.loom_text.specs.Statements.{Standing, all_declared, moved, standing}
use Rattle.loom_text.specs.Tokens.{Left, left}
use Rattle.loom_text.proofs.read.parser.Parser.all_declared.Goals as goal

pub returns-in_err-statement : goal.returns-in_err-statement
returns-in_err-statement c =
    let count = length (left c.args.self.now).0 in
    let lt : c.loop.counter < count = omega (arith, c.loop-test.true, c.len-end.ensures) in
    let p = err_from_is_err_and c.from_residual.result c.from_residual.ensures.1 in
    rw (p.1, p.2) (not_declared count c.loop.counter (deeds c.loop.body.items) (standing c.loop.self c.loop.scope) _ c.loop.invariant lt c.in_err-statement.field-0.0 c.in_err-statement.ensures)

pub returns-in_err-expect : goal.returns-in_err-expect
returns-in_err-expect c =
    let count = length (left c.args.self.now).0 in
    let lt : c.loop.counter < count = omega (arith, c.loop-test.true, c.len-end.ensures) in
    let new = standing c.declaration.new.self c.declaration.new.scope in
    let comma = not_eaten c.eat.result signs.Comma (left c.declaration.new.self) (left c.eat.new.self) c.eat.ensures.found c.eat.ensures.left c.if-not-eat.true in
    let p = err_from_is_err_and c.from_residual-in_err-expect.result c.from_residual-in_err-expect.ensures.1 in
    rw (p.1, p.2) (not_ended count c.loop.counter (deeds c.loop.body.items) (standing c.loop.self c.loop.scope) _ c.loop.invariant lt (deed c.in_ok-statement.statement.action) new c.in_ok-statement.ensures
    comma.0 (left c.eat.new.self) comma.1 c.in_err-expect.field-0.0 c.in_err-expect.ensures)

pub returns-then-not-eat : goal.returns-then-not-eat
returns-then-not-eat c =
    let count = length (left c.args.self.now).0 in
    let lt : c.loop.counter < count = omega (arith, c.loop-test.true, c.len-end.ensures) in
    let done = deeds c.loop.body.items in
    let new = standing c.declaration.new.self c.declaration.new.scope in
    let comma = not_eaten c.eat.result signs.Comma (left c.declaration.new.self) (left c.eat.new.self) c.eat.ensures.found c.eat.ensures.left c.if-not-eat.true in
    let pushed : deeds c.push.new.self.items ≡ Then done (deed c.in_ok-statement.statement.action) = ap deeds c.in_ok-push.ensures.items ∙ one_behind Nothing c.loop.body.items c.in_ok-statement.statement in
    let whole : Deeds → Option (Deeds × Standing) = λ ds. Some (ds, moved (left c.expect.new.self) new) in
    ended count c.loop.counter done (standing c.loop.self c.loop.scope) _ c.loop.invariant lt (deed c.in_ok-statement.statement.action) new c.in_ok-statement.ensures
    comma.0 (left c.eat.new.self) comma.1 (left c.expect.new.self) c.in_ok-expect.ensures
    ∙ ap whole (sym pushed)

pub loop-preserved : goal.loop-preserved
loop-preserved c =
    let count = length (left c.args.self.now).0 in
    let lt : c.loop.counter < count = omega (arith, c.loop-test.true, c.len-end.ensures) in
    let done = deeds c.loop.body.items in
    let does = deed c.in_ok-statement.statement.action in
    let new = standing c.declaration.new.self c.declaration.new.scope in
    let comma = eaten c.eat.result signs.Comma (left c.declaration.new.self) (left c.eat.new.self) c.eat.ensures.found c.eat.ensures.left c.if-not-eat.false in
    let pushed : deeds c.push.new.self.items ≡ Then done does = ap deeds c.in_ok-push.ensures.items ∙ one_behind Nothing c.loop.body.items c.in_ok-statement.statement in
    ap (λ (ds : Deeds). all_declared (count - (c.loop.counter + 1)) ds (moved (left c.eat.new.self) new)) pushed
    ∙ ap (λ (l : Left). all_declared (count - (c.loop.counter + 1)) (Then done does) (moved l new)) comma.1
    ∙ one_more count c.loop.counter done (standing c.loop.self c.loop.scope) _ c.loop.invariant lt does new c.in_ok-statement.ensures comma.0

pub returns : goal.returns
returns c =
    let count = length (left c.args.self.now).0 in
    let over : count ≤ c.loop.counter = omega (arith, c.loop-test.false, c.len-end.ensures) in
    stops_none c.expected.result _ (no_tokens count c.loop.counter (deeds c.loop.body.items) (standing c.loop.self c.loop.scope) _ c.loop.invariant over)
