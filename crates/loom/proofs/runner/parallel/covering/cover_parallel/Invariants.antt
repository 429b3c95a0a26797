use Rattle.std.proofs.Common.{◌≤◌, ◌+◌, ◌-◌, ◌^◌}
use Rattle.loom.specs.Model.Settings.{most_runs}
use Rattle.loom.proofs.RunnerLemmas.Covering.{HasCome}
use Rattle.loom.proofs.runner.parallel.covering.cover_parallel.Given as goal

-- so many runs were begun, which a number holds, and the search has reached the list and the table
abbrev pub invariant-turns : goal.invariant-turns
invariant-turns g l = record {
  within : l.runs + l.met ≤ most_runs l.builder;
  fits : l.runs + l.met ≤ 2 ^ 64 - 1;
  come : HasCome g.V.Visitor.takes g.G.Visitors.is_new g.G.Visitors.joins l.builder g.B.Body.next l.body l.fn.parts l.fn.states l.fn.visitors l.parts l.states l.visitors l.runs;
}
