use Rattle.std.proofs.Common.{◌≡◌, None, refl, sym, ◌∙◌, arith}
use Rattle.std.proofs.lemmas.Grind.{common_steps}
use Rattle.std.proofs.lemmas.Result.{err_from_is_err_and}
use Rattle.loom_text.proofs.ExpressionSteps.{closed_as, no_first, no_operand, not_closed, not_enclosed, not_signed, nothing_enclosed, operand_read, no_operator_more, no_right, none_deeper, one_deeper, one_right, some_first, too_deep_behind, too_many_operators, uncounted}
use Rattle.loom_text.proofs.ReadingSteps.{stops_none}
use Rattle.loom_text.specs.Expressions.{inside, operator_at, phrase}
use Rattle.loom_text.specs.Known.{known}
use Rattle.loom_text.specs.Tokens.{left}
use Rattle.loom_text.proofs.read.parser.Parser.+expressions.Goals as goal

pub binary-loop-init : goal.binary-loop-init
binary-loop-init t c =
    some_first (known c.args.scope.now) (inside (known c.args.scope.now) c.args.depth) c.args.lowest (left c.args.self.now) (left c.unary.new.self) (phrase c.in_ok-left.left) c.in_ok-left.ensures

pub binary-returns-in_err-left : goal.binary-returns-in_err-left
binary-returns-in_err-left t c =
    let p = err_from_is_err_and c.from_residual.result c.from_residual.ensures.1 in
    rw (p.1, p.2) (no_first c.in_err-left.field-0.0 (known c.args.scope.now) (inside (known c.args.scope.now) c.args.depth) c.args.lowest (left c.args.self.now) c.in_err-left.ensures)

pub binary-returns-in_default : goal.binary-returns-in_default
binary-returns-in_default t c =
    let none : operator_at c.args.lowest (left c.loop.self) ≡ None = grind (arith, common_steps, c.operator.ensures, c.in_default.not-Some) in
    no_operator_more (inside (known c.args.scope.now) c.args.depth) c.args.lowest 257 c.loop.counter (phrase c.loop.left) (left c.loop.self) _ c.loop-test.true c.loop.invariant none

pub binary-returns-in_err-count_operator : goal.binary-returns-in_err-count_operator
binary-returns-in_err-count_operator t c =
    let p = err_from_is_err_and c.from_residual-in_err-count_operator.result c.from_residual-in_err-count_operator.ensures.1 in
    rw (p.1, p.2) (uncounted (inside (known c.args.scope.now) c.args.depth) c.args.lowest 257 c.loop.counter (phrase c.loop.left) (left c.loop.self) _ c.loop-test.true c.loop.invariant
    c.in-Some.operator (sym c.in-Some.ensures) c.in_err-count_operator.field-0.0 c.in_err-count_operator.ensures)

pub binary-returns-in_err-inside : goal.binary-returns-in_err-inside
binary-returns-in_err-inside t c =
    let p = err_from_is_err_and c.from_residual-in_err-inside.result c.from_residual-in_err-inside.ensures.1 in
    let none = none_deeper (known c.args.scope.now) c.args.depth (c.in_err-inside.ensures.err refl) in
    rw (p.1, p.2) (stops_none c.in_err-inside.field-0.0 _ (too_deep_behind (inside (known c.args.scope.now) c.args.depth) c.args.lowest 257 c.loop.counter (phrase c.loop.left) (left c.loop.self) _ c.loop-test.true c.loop.invariant
    c.in-Some.operator (sym c.in-Some.ensures) (left c.count_operator.new.self) c.in_ok-count_operator.ensures none))

pub binary-returns-in_err-right : goal.binary-returns-in_err-right
binary-returns-in_err-right t c =
    let p = err_from_is_err_and c.from_residual-in_err-right.result c.from_residual-in_err-right.ensures.1 in
    rw (p.1, p.2) (no_right (inside (known c.args.scope.now) c.args.depth) c.args.lowest 257 c.loop.counter (phrase c.loop.left) (left c.loop.self) _ c.loop-test.true c.loop.invariant
    c.in-Some.operator (sym c.in-Some.ensures) (left c.count_operator.new.self) c.in_ok-count_operator.ensures (known c.args.scope.now) c.in_ok-inside.inside c.binds.result
    (one_deeper (known c.args.scope.now) c.in_ok-inside.inside c.args.depth c.in_ok-inside.ensures.ok) c.binds.ensures.value (left c.take.new.self) c.take.ensures.left
    c.in_err-right.field-0.0 c.in_err-right.ensures)

pub binary-loop-preserved : goal.binary-loop-preserved
binary-loop-preserved t c =
    let first : c.in_ok-first.first.value ≡ c.loop.left = c.in_ok-first.ensures.ok in
    let second : c.in_ok-second.second.value ≡ c.in_ok-right.right = c.in_ok-second.ensures.ok in
    rw (first, second) (one_right (inside (known c.args.scope.now) c.args.depth) c.args.lowest 257 c.loop.counter (phrase c.loop.left) (left c.loop.self) _ c.loop-test.true c.loop.invariant
    c.in-Some.operator (sym c.in-Some.ensures) (left c.count_operator.new.self) c.in_ok-count_operator.ensures (known c.args.scope.now) c.in_ok-inside.inside c.binds.result
    (one_deeper (known c.args.scope.now) c.in_ok-inside.inside c.args.depth c.in_ok-inside.ensures.ok) c.binds.ensures.value (left c.take.new.self) c.take.ensures.left
    (phrase c.in_ok-right.right) _ c.in_ok-right.ensures)

pub binary-returns : goal.binary-returns
binary-returns t c =
    stops_none c.at.result _ (too_many_operators (inside (known c.args.scope.now) c.args.depth) c.args.lowest 257 c.loop.counter (phrase c.loop.left) (left c.loop.self) _ c.loop-test.false c.loop.invariant)

pub signed-returns-in_err-inside : goal.signed-returns-in_err-inside
signed-returns-in_err-inside t c =
    let p = err_from_is_err_and c.from_residual.result c.from_residual.ensures.1 in
    rw (p.1, p.2) (not_signed (inside (known c.args.scope.now) c.args.depth) c.args.operator (left c.args.self.now) c.in_err-inside.field-0.0 (none_deeper (known c.args.scope.now) c.args.depth (c.in_err-inside.ensures.err refl)))

pub signed-returns-in_err-operand : goal.signed-returns-in_err-operand
signed-returns-in_err-operand t c =
    let p = err_from_is_err_and c.from_residual-in_err-operand.result c.from_residual-in_err-operand.ensures.1 in
    rw (p.1, p.2) (no_operand (inside (known c.args.scope.now) c.args.depth) c.args.operator (left c.args.self.now) (known c.args.scope.now) c.in_ok-inside.inside
    (one_deeper (known c.args.scope.now) c.in_ok-inside.inside c.args.depth c.in_ok-inside.ensures.ok) (left c.take.new.self) c.take.ensures.left c.in_err-operand.field-0.0 c.in_err-operand.ensures)

pub signed-returns : goal.signed-returns
signed-returns t c =
    let boxed : c.in_ok-new.field-0.value ≡ c.in_ok-operand.operand = c.in_ok-new.ensures.ok in
    rw boxed (operand_read (inside (known c.args.scope.now) c.args.depth) c.args.operator (left c.args.self.now) (known c.args.scope.now) c.in_ok-inside.inside
    (one_deeper (known c.args.scope.now) c.in_ok-inside.inside c.args.depth c.in_ok-inside.ensures.ok) (left c.take.new.self) c.take.ensures.left (phrase c.in_ok-operand.operand) _ c.in_ok-operand.ensures)

pub enclosed-returns-in_err-inside : goal.enclosed-returns-in_err-inside
enclosed-returns-in_err-inside t c =
    let p = err_from_is_err_and c.from_residual.result c.from_residual.ensures.1 in
    rw (p.1, p.2) (not_enclosed (inside (known c.args.scope.now) c.args.depth) (left c.args.self.now) (sym c.sees_type.ensures ∙ c.if-sees_type.false) c.in_err-inside.field-0.0
    (none_deeper (known c.args.scope.now) c.args.depth (c.in_err-inside.ensures.err refl)))

pub enclosed-returns-in_err-expression : goal.enclosed-returns-in_err-expression
enclosed-returns-in_err-expression t c =
    let p = err_from_is_err_and c.from_residual-in_err-expression.result c.from_residual-in_err-expression.ensures.1 in
    rw (p.1, p.2) (nothing_enclosed (inside (known c.args.scope.now) c.args.depth) (left c.args.self.now) (sym c.sees_type.ensures ∙ c.if-sees_type.false) (known c.args.scope.now) c.in_ok-inside.inside
    (one_deeper (known c.args.scope.now) c.in_ok-inside.inside c.args.depth c.in_ok-inside.ensures.ok) c.in_err-expression.field-0.0 c.in_err-expression.ensures)

pub enclosed-returns-in_err-expect : goal.enclosed-returns-in_err-expect
enclosed-returns-in_err-expect t c =
    let p = err_from_is_err_and c.from_residual-in_err-expect.result c.from_residual-in_err-expect.ensures.1 in
    rw (p.1, p.2) (not_closed (inside (known c.args.scope.now) c.args.depth) (left c.args.self.now) (sym c.sees_type.ensures ∙ c.if-sees_type.false) (known c.args.scope.now) c.in_ok-inside.inside
    (one_deeper (known c.args.scope.now) c.in_ok-inside.inside c.args.depth c.in_ok-inside.ensures.ok) (phrase c.in_ok-expression.expression) (left c.binary.new.self) c.in_ok-expression.ensures
    c.in_err-expect.field-0.0 c.in_err-expect.ensures)

pub enclosed-returns : goal.enclosed-returns
enclosed-returns t c =
    closed_as (inside (known c.args.scope.now) c.args.depth) (left c.args.self.now) (sym c.sees_type.ensures ∙ c.if-sees_type.false) (known c.args.scope.now) c.in_ok-inside.inside
    (one_deeper (known c.args.scope.now) c.in_ok-inside.inside c.args.depth c.in_ok-inside.ensures.ok) (phrase c.in_ok-expression.expression) (left c.binary.new.self) c.in_ok-expression.ensures
    (left c.expect.new.self) c.in_ok-expect.ensures
