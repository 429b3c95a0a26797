use Rattle.std.proofs.Common.{◌∙◌, ap, sym, Err}
use Rattle.loom.specs.Runner.Handle.{Teller}
use Rattle.loom.proofs.RunnerLemmas.Remembering.{on_ok}
use Rattle.loom.proofs.runner.handle.Handle.leave.Goals as goal

pub returns-in-Some-clause-starved : goal.returns-in-Some-clause-starved
returns-in-Some-clause-starved g c starved = ap Err (c.in-Some.ensures.memory (ap (λ (t : Teller _). t.starved) c.self.view_is ∙ starved))

pub returns-clause-fed : goal.returns-clause-fed
returns-clause-fed g c = on_ok c.gather.result _ (sym (ap (λ (t : Teller _). t.starved) c.self.view_is) ∙ c.in-None.ensures.memory)

pub returns-clause-starved : goal.returns-clause-starved
returns-clause-starved g c starved = cc (c.in-None.ensures.memory, ap (λ (t : Teller _). t.starved) c.self.view_is, starved)

pub returns-in-Some-clause-errors : goal.returns-in-Some-clause-errors
returns-in-Some-clause-errors g c = c.in-Some.ensures.host

pub returns-clause-errors : goal.returns-clause-errors
returns-clause-errors g c = c.gather.ensures.errors c.others_of-others.ensures
