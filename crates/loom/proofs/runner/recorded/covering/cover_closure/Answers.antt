use Rattle.std.proofs.Common.{refl}
use Rattle.std.specs.Fn.{CalledAtMut}
use Rattle.loom.proofs.Closures.Erring.{made_error, no_fault}
use Rattle.loom.proofs.ModelLemmas.Errors.{on_error}
use Rattle.loom.proofs.RunnerLemmas.RecordedCover.{covers_so, held_so, still_held}
use Rattle.loom.proofs.runner.recorded.covering.cover_closure.Goals as goal

pub returns-clause-covers : goal.returns-clause-covers
returns-clause-covers g c =
    covers_so (CalledAtMut g.F.FnMut) g.V.Visitor.takes c.args.builder.now c.args.closure.now c.learn.new.closure c.args.visitor.now c.cover_known.new.visitor (g.S.CheckpointStore.gives c.args.store.now)
    (g.S.CheckpointStore.holds c.cover_known.new.store) (g.C.Clock.answered c.cover_known.new.clock) c.in-Ok.recording c.learn.new.recording c.cover_known.result c.in-Ok.ensures.answers c.in-Ok.ensures.places
    c.in_ok-learn.ensures.records c.cover_known.ensures.covers

pub returns-clause-left : goal.returns-clause-left
returns-clause-left g c =
    held_so (CalledAtMut g.F.FnMut) c.args.builder.now c.args.closure.now (g.S.CheckpointStore.gives c.args.store.now) (g.S.CheckpointStore.holds c.args.store.now) c.learn.new.closure
    (g.S.CheckpointStore.holds c.cover_known.new.store) c.in-Ok.recording c.learn.new.recording c.cover_known.result c.in-Ok.ensures.answers c.in-Ok.ensures.places c.in_ok-learn.ensures.records c.cover_known.ensures.left

-- ---- before a run was covered

pub returns-in_default-clause-left : goal.returns-in_default-clause-left
returns-in_default-clause-left g c =
    still_held (CalledAtMut g.F.FnMut) c.args.builder.now c.args.closure.now (g.S.CheckpointStore.gives c.args.store.now) (g.S.CheckpointStore.holds c.args.store.now)

pub returns-in_err-learn-clause-left : goal.returns-in_err-learn-clause-left
returns-in_err-learn-clause-left g c =
    on_error c.from_residual.result (still_held (CalledAtMut g.F.FnMut) c.args.builder.now c.args.closure.now (g.S.CheckpointStore.gives c.args.store.now) (g.S.CheckpointStore.holds c.args.store.now))

pub returns-in_err-learn-clause-faults : goal.returns-in_err-learn-clause-faults
returns-in_err-learn-clause-faults g c =
    no_fault c.from_residual.result c.in_err-learn.field-0.0 _ _ (made_error c.from_residual.result c.in_err-learn.field-0.0 c.from_residual.ensures.1) (c.in_err-learn.ensures.errors _) refl
