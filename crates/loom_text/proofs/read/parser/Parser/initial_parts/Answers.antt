use Rattle.std.proofs.Common.{◌∙◌, ◌<◌, ◌≤◌, length, Option, Some, ap, subst, sym, arith}
use Rattle.std.proofs.lemmas.Result.{err_from_is_err_and}
use Rattle.loom_text.proofs.HeadSteps.{another, brace, no_part, over}
use Rattle.loom_text.proofs.ReadingSteps.{eaten, not_eaten, stops_none}
use Rattle.loom_text.specs.declared.read.symbol.Symbol.TheVariants as signs
use Rattle.loom_text.specs.Heads.{Placed, initial_part_at, placed}
use Rattle.loom_text.specs.Tokens.{Left, Stops, left}
use Rattle.loom_text.proofs.read.parser.Parser.initial_parts.Goals as goal

pub returns-then-eat : goal.returns-then-eat
returns-then-eat c =
    let count = length (left c.args.self.now).0 in
    let lt : c.loop.counter < count = omega (arith, c.loop-test.true, c.len-end.ensures) in
    let last = eaten c.eat.result signs.CloseBrace (left c.loop.self) (left c.eat.new.self) c.eat.ensures.found c.eat.ensures.left c.if-eat.true in
    let whole : Left → Option (Placed × Left) = λ l. Some (placed c.loop.places, l) in
    brace count c.loop.counter (placed c.loop.places) (left c.loop.self) _ c.loop.invariant lt last.0 ∙ ap whole (sym last.1)

pub returns-in_err-initial_part : goal.returns-in_err-initial_part
returns-in_err-initial_part c =
    let count = length (left c.args.self.now).0 in
    let lt : c.loop.counter < count = omega (arith, c.loop-test.true, c.len-end.ensures) in
    let more = not_eaten c.eat.result signs.CloseBrace (left c.loop.self) (left c.eat.new.self) c.eat.ensures.found c.eat.ensures.left c.if-eat.false in
    let p = err_from_is_err_and c.from_residual.result c.from_residual.ensures.1 in
    rw (p.1, p.2) (no_part count c.loop.counter (placed c.loop.places) (left c.loop.self) _ c.loop.invariant lt more.0 c.in_err-initial_part.field-0.0
    (subst (λ (l : Left). Stops c.in_err-initial_part.field-0.0 (initial_part_at (placed c.loop.places) l)) more.1 c.in_err-initial_part.ensures))

pub loop-preserved : goal.loop-preserved
loop-preserved c =
    let count = length (left c.args.self.now).0 in
    let lt : c.loop.counter < count = omega (arith, c.loop-test.true, c.len-end.ensures) in
    let more = not_eaten c.eat.result signs.CloseBrace (left c.loop.self) (left c.eat.new.self) c.eat.ensures.found c.eat.ensures.left c.if-eat.false in
    another count c.loop.counter (placed c.loop.places) (left c.loop.self) _ c.loop.invariant lt more.0 (placed c.initial_part.new.places) (left c.initial_part.new.self)
    (ap (λ (l : Left). initial_part_at (placed c.loop.places) l) (sym more.1) ∙ c.in_ok-initial_part.ensures)

pub returns : goal.returns
returns c =
    let count = length (left c.args.self.now).0 in
    let no_more : count ≤ c.loop.counter = omega (arith, c.loop-test.false, c.len-end.ensures) in
    stops_none c.expected.result _ (over count c.loop.counter (placed c.loop.places) (left c.loop.self) _ c.loop.invariant no_more)
