use Rattle.loom_engine.proofs.Execution.Executing.{marked_at}
use Rattle.loom_engine.proofs.rt.execution.mark_unordered.Goals as goal

pub returns-clause-marks : goal.returns-clause-marks
returns-clause-marks g c =
    marked_at c.args.run.now c.args.path.now c.backtrack.new.self c.uses-uses.result c.unordered.result c.requires c.uses-uses.ensures c.unordered.ensures c.backtrack.ensures
