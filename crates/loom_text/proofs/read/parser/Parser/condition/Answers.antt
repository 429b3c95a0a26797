use Rattle.std.proofs.Common.{ap}
use Rattle.loom_text.proofs.ConditionsFit.{result_fits}
use Rattle.loom_text.specs.Conditions.{places_of, threads_of}
use Rattle.loom_text.specs.Tokens.{Left, left}
use Rattle.loom_text.proofs.read.parser.Parser.condition.Goals as goal

pub returns-clause-fits : goal.returns-clause-fits
returns-clause-fits c =
    result_fits (places_of c.args.names) (threads_of c.args.names) (left c.begin_operators.new.self) (left c.disjunction.new.self) c.disjunction.result
    (ap (λ (l : Left). l.1) c.begin_operators.ensures) c.disjunction.ensures.read
