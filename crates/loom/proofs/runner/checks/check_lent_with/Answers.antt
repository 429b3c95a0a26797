use Rattle.std.specs.Fn.{CalledAtMut}
use Rattle.loom.proofs.Closures.AsAsked.{as_called, as_recorded}
use Rattle.loom.proofs.runner.checks.check_lent_with.Goals as goal

-- ---- recorded

pub returns-then-builder-clause-reports : goal.returns-then-builder-clause-reports
returns-then-builder-clause-reports g c =
    as_recorded (CalledAtMut g.F.FnMut) g.V.Visitor.takes c.args.builder.now c.args.closure.now c.args.visitor.now c.check_recorded_lent.new.visitor (g.S.CheckpointStore.gives c.args.store.now)
    (g.S.CheckpointStore.holds c.check_recorded_lent.new.store) (g.C.Clock.answered c.check_recorded_lent.new.clock) c.check_recorded_lent.result c.if-builder.true c.check_recorded_lent.ensures.reports

pub returns-then-builder-clause-alike : goal.returns-then-builder-clause-alike
returns-then-builder-clause-alike g c = λ off. absurd (cc (off, c.if-builder.true))

pub returns-then-builder-clause-changed : goal.returns-then-builder-clause-changed
returns-then-builder-clause-changed g c = λ off. absurd (cc (off, c.if-builder.true))

pub returns-then-builder-clause-errors : goal.returns-then-builder-clause-errors
returns-then-builder-clause-errors g c = λ off. absurd (cc (off, c.if-builder.true))

pub returns-then-builder-clause-left : goal.returns-then-builder-clause-left
returns-then-builder-clause-left g c = λ off. absurd (cc (off, c.if-builder.true))

-- ---- called

pub returns-else-builder-clause-reports : goal.returns-else-builder-clause-reports
returns-else-builder-clause-reports g c =
    as_called (CalledAtMut g.F.FnMut) g.V.Visitor.takes c.args.builder.now c.args.closure.now c.args.visitor.now c.check_called.new.visitor (g.S.CheckpointStore.gives c.args.store.now)
    (g.S.CheckpointStore.holds c.check_called.new.store) (g.C.Clock.answered c.check_called.new.clock) c.check_called.result c.if-builder.false c.check_called.ensures.reports

pub returns-else-builder-clause-alike : goal.returns-else-builder-clause-alike
returns-else-builder-clause-alike g c = λ off. c.check_called.ensures.alike

pub returns-else-builder-clause-changed : goal.returns-else-builder-clause-changed
returns-else-builder-clause-changed g c = λ off. c.check_called.ensures.changed

pub returns-else-builder-clause-errors : goal.returns-else-builder-clause-errors
returns-else-builder-clause-errors g c = λ off. c.check_called.ensures.errors

pub returns-else-builder-clause-left : goal.returns-else-builder-clause-left
returns-else-builder-clause-left g c = λ off. c.check_called.ensures.left
