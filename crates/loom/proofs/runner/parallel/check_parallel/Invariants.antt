use Rattle.std.proofs.Common.{◌≤◌, List}
use Rattle.loom_objects.specs.declared.choice.Choice.{Choice}
use Rattle.loom_engine.specs.Runs.Body.{runs}
use Rattle.loom_engine.specs.Parts.Keeping.{IsAt}
use Rattle.loom.specs.Model.Fresh.{machine}
use Rattle.loom.specs.Model.Settings.{explores, most_runs, search_of}
use Rattle.loom.specs.Runner.Parallel.{HasGoneOn}
use Rattle.loom.proofs.runner.parallel.check_parallel.Given as goal

-- so many runs were made, and the search has reached the list
abbrev pub invariant-turns : goal.invariant-turns
invariant-turns g l = record {
  within : l.runs ≤ most_runs l.builder;
  gone : (made : List (List Choice)) → IsAt (machine (search_of l.builder) (runs g.B.Body.next (explores l.builder) l.builder.max_threads l.builder.max_steps l.body)) made l.fn.parts
      → HasGoneOn g.V.Visitor.takes g.G.Visitors.is_new g.G.Visitors.joins l.builder (runs g.B.Body.next (explores l.builder) l.builder.max_threads l.builder.max_steps l.body) made l.fn.visitors l.visitors l.parts l.runs;
}
