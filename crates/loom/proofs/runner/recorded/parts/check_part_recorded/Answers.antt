use Rattle.std.specs.Fn.{CalledAtMut}
use Rattle.loom.proofs.RunnerLemmas.RecordedParts.{part_was_done}
use Rattle.loom.proofs.runner.recorded.parts.check_part_recorded.Goals as goal

pub returns-then-part-clause-works : goal.returns-then-part-clause-works
returns-then-part-clause-works g c = part_was_done (CalledAtMut g.F.FnMut) g.V.Visitor.takes c.args.builder.now c.args.closure c.args.visitor.now c.args.part.now c.if-part.true
