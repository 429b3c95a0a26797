use Rattle.std.proofs.Common.{[]}
use Rattle.loom_engine.specs.Runs.Body.{runs}
use Rattle.loom_engine.proofs.Runs.Bodies.{run_tree_law}
use Rattle.loom.specs.Model.Fresh.{machine}
use Rattle.loom.specs.Model.Settings.{explores, search_of}
use Rattle.loom_text.specs.Run.States.{tallied}
use Rattle.loom_text.specs.Run.Thread.{next_of}
use Rattle.loom_text.proofs.ParallelLemmas.{shared_from}
use Rattle.loom_text.proofs.run.parallel.check_by.Goals as goal

pub returns : goal.returns
returns g c =
    let b = c.args.builder.now in
    let tree = runs next_of (explores b) b.max_threads b.max_steps c.args.main.now in
    shared_from (λ t. tallied t.test.now t.layout.now t.counts.states.items t.counts.positive t.counts.negative) (λ part. part.results.items) c.new-tally.result c.check_parallel.new.visitors b tree _ _
    c.check_parallel.new.parts c.in_ok-found.found _ (run_tree_law next_of (explores b) b.max_threads b.max_steps c.args.main.now) c.new-tally.ensures
    (c.in_ok-found.ensures.finds.1 [] (c.in_ok-parts.ensures.begins (machine (search_of b) tree))) c.in_ok-report.ensures c.into_counts.ensures.states c.into_counts.ensures.positive c.into_counts.ensures.negative
