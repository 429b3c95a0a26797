use Rattle.std.proofs.Common.{ap}
use Rattle.loom_text.proofs.ExpressionsFit.{expression_fits}
use Rattle.loom_text.specs.Known.{known}
use Rattle.loom_text.specs.Tokens.{Left, left}
use Rattle.loom_text.proofs.read.parser.Parser.expression.Goals as goal

pub returns-clause-fits : goal.returns-clause-fits
returns-clause-fits c =
    expression_fits (known c.args.scope.now) (left c.begin_operators.new.self) (left c.binary.new.self) c.binary.result
    (ap (λ (l : Left). l.1) c.begin_operators.ensures) c.binary.ensures
