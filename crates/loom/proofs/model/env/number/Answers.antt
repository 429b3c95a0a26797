use Rattle.loom.proofs.ModelLemmas.Numbers.{number_reads, number_refused}
use Rattle.loom.proofs.model.env.number.Goals as goal

pub returns-in-Ok : goal.returns-in-Ok
returns-in-Ok c = let e = rw c.in-Ok.is at c.parse.ensures.value in number_reads c.args.variable c.args.text.now c.in-Ok.number e.0

pub returns-in-Err : goal.returns-in-Err
returns-in-Err c = let e = rw c.in-Err.is at c.parse.ensures.value in number_refused c.args.variable c.args.text.now e.0
