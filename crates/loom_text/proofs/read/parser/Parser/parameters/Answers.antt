use Rattle.std.proofs.Common.{◌∙◌, ◌+◌, ◌-◌, ◌<◌, ◌≤◌, length, ap, arith}
use Rattle.std.proofs.lemmas.Result.{err_from_is_err_and}
use Rattle.loom_text.proofs.HeadSteps.{ended_so, no_tokens, not_passed, one_more}
use Rattle.loom_text.proofs.ReadingSteps.{eaten, not_eaten, stops_none}
use Rattle.loom_text.specs.declared.read.symbol.Symbol.TheVariants as signs
use Rattle.loom_text.specs.Heads.{Passing, parameters_at, placed}
use Rattle.loom_text.specs.Tokens.{Left, left}
use Rattle.loom_text.proofs.read.parser.Parser.parameters.Goals as goal

pub returns-in_err-parameter : goal.returns-in_err-parameter
returns-in_err-parameter c =
    let count = length (left c.args.self.now).0 in
    let lt : c.loop.counter < count = omega (arith, c.loop-test.true, c.len-end.ensures) in
    let p = err_from_is_err_and c.from_residual.result c.from_residual.ensures.1 in
    rw (p.1, p.2) (not_passed count c.loop.counter (c.loop.parameters.items, placed c.loop.places) (left c.loop.self) _ c.loop.invariant lt c.in_err-parameter.field-0.0 c.in_err-parameter.ensures)

pub loop-preserved : goal.loop-preserved
loop-preserved c =
    let count = length (left c.args.self.now).0 in
    let lt : c.loop.counter < count = omega (arith, c.loop-test.true, c.len-end.ensures) in
    let new : Passing = (c.parameter.new.parameters.items, placed c.parameter.new.places) in
    let comma = eaten c.eat.result signs.Comma (left c.parameter.new.self) (left c.eat.new.self) c.eat.ensures.found c.eat.ensures.left c.if-not-eat.false in
    ap (λ (l : Left). parameters_at (count - (c.loop.counter + 1)) new l) comma.1
    ∙ one_more count c.loop.counter (c.loop.parameters.items, placed c.loop.places) (left c.loop.self) _ c.loop.invariant lt new (left c.parameter.new.self) c.in_ok-parameter.ensures comma.0

pub returns : goal.returns
returns c =
    let count = length (left c.args.self.now).0 in
    let over : count ≤ c.loop.counter = omega (arith, c.loop-test.false, c.len-end.ensures) in
    stops_none c.expected.result _ (no_tokens count c.loop.counter (c.loop.parameters.items, placed c.loop.places) (left c.loop.self) _ c.loop.invariant over)

pub returns-then-not-eat : goal.returns-then-not-eat
returns-then-not-eat c =
    let count = length (left c.args.self.now).0 in
    let lt : c.loop.counter < count = omega (arith, c.loop-test.true, c.len-end.ensures) in
    let new : Passing = (c.parameter.new.parameters.items, placed c.parameter.new.places) in
    let comma = not_eaten c.eat.result signs.Comma (left c.parameter.new.self) (left c.eat.new.self) c.eat.ensures.found c.eat.ensures.left c.if-not-eat.true in
    ended_so count c.loop.counter (c.loop.parameters.items, placed c.loop.places) (left c.loop.self) _ c.loop.invariant lt new (left c.parameter.new.self) c.in_ok-parameter.ensures
    comma.0 (left c.eat.new.self) comma.1 c.expect.result (left c.expect.new.self) c.expect.ensures
