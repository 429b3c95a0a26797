use Rattle.std.specs.Fn.{CalledAtMut}
use Rattle.loom.proofs.ModelLemmas.Errors.{on_error}
use Rattle.loom.proofs.RunnerLemmas.RecordedCover.{still_held}
use Rattle.loom.proofs.runner.recorded.covering.cover_recorded.Goals as goal

pub returns-in_err-test-clause-left : goal.returns-in_err-test-clause-left
returns-in_err-test-clause-left g c =
    on_error c.from_residual.result (still_held (CalledAtMut g.F.FnMut) c.args.builder.now c.args.closure (g.S.CheckpointStore.gives c.args.store.now) (g.S.CheckpointStore.holds c.args.store.now))
