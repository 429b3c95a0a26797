use Rattle.std.proofs.lemmas.Result.{err_from_is_err_and}
use Rattle.loom_text.proofs.StatementSteps.{evaluated_as, not_evaluated}
use Rattle.loom_text.specs.Expressions.{phrase}
use Rattle.loom_text.specs.Known.{known}
use Rattle.loom_text.specs.Tokens.{left}
use Rattle.loom_text.proofs.read.parser.Parser.evaluated.Goals as goal

pub returns-in_err-call : goal.returns-in_err-call
returns-in_err-call c =
    let p = err_from_is_err_and c.from_residual-in_err-call.result c.from_residual-in_err-call.ensures.1 in
    rw (p.1, p.2) (not_evaluated (known c.args.scope.now) c.in_ok-depth.depth c.args.function c.args.count c.args.explicit (left c.args.self.now) (left c.begin_operators.new.self)
    c.in_ok-depth.ensures.ok c.begin_operators.ensures c.in_err-call.field-0.0 c.in_err-call.ensures)

pub returns : goal.returns
returns c =
    evaluated_as (known c.args.scope.now) c.in_ok-depth.depth c.args.function c.args.count c.args.explicit (left c.args.self.now) (left c.begin_operators.new.self)
    c.in_ok-depth.ensures.ok c.begin_operators.ensures (phrase c.in_ok-call.call) _ c.in_ok-call.ensures
