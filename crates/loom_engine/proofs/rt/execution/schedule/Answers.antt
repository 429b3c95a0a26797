use Rattle.std.proofs.Common.{arith}
use Rattle.std.specs.Prelude.{None, Ok, Err}
use Rattle.loom_objects.specs.declared.failure.Stop.TheVariants.{Failure}
use Rattle.loom_views.specs.declared.rt.failure.FailureKind.TheVariants.{Misuse}
use Rattle.loom_engine.proofs.Execution.Executing.{pass_stops, too_many, turn_passed}
use Rattle.loom_engine.proofs.Execution.Growing.{as_refused, left_comes, left_further, left_needs, left_start, pass_needs}
use Rattle.loom_engine.proofs.rt.execution.schedule.Goals as goal

pub passes-init : goal.passes-init
passes-init g c = left_start c.args.more c.args.run.now c.args.path.now

pub passes-preserved : goal.passes-preserved
passes-preserved g c =
    let l = c.passes in
    left_further c.args.more c.args.run.now c.args.path.now l.left l.run l.path l.invariant _ c.pass.new.run c.pass.new.path (omega (arith, c.if-left-eq0.false))
    (rw c.in-Ok-AtBranch.field-0-is at c.in-Ok-AtBranch.ensures.along) c.pass.ensures.same c.pass.ensures.steps

pub returns-in-Err-clause-along : goal.returns-in-Err-clause-along
returns-in-Err-clause-along g c =
    let l = c.passes in
    left_comes c.args.more c.args.run.now c.args.path.now l.left l.run l.path l.invariant (Err c.in-Err.stop) c.pass.new.run c.pass.new.path
    (pass_stops l.run c.pass.new.run l.path c.pass.new.path l.left c.in-Err.stop c.in-Err.ensures.along)

pub returns-in-Ok-Turn-clause-along : goal.returns-in-Ok-Turn-clause-along
returns-in-Ok-Turn-clause-along g c =
    let l = c.passes in
    left_comes c.args.more c.args.run.now c.args.path.now l.left l.run l.path l.invariant (Ok c.in-Ok-Turn.turn) c.pass.new.run c.pass.new.path
    (turn_passed l.run c.pass.new.run l.path c.pass.new.path l.left c.in-Ok-Turn.turn (rw c.in-Ok-Turn.field-0-is at c.in-Ok-Turn.ensures.along))

pub returns-then-left-eq0-clause-along : goal.returns-then-left-eq0-clause-along
returns-then-left-eq0-clause-along g c =
    let l = c.passes in
    rw c.failed.ensures (
    left_comes c.args.more c.args.run.now c.args.path.now l.left l.run l.path l.invariant (Err (Failure (record { kind = Misuse; location = None }))) c.pass.new.run c.pass.new.path
    (too_many l.run c.pass.new.run l.path c.pass.new.path l.left (omega (arith, c.if-left-eq0.true)) (rw c.in-Ok-AtBranch.field-0-is at c.in-Ok-AtBranch.ensures.along))
    )

pub returns-in-Err-clause-growth : goal.returns-in-Err-clause-growth
returns-in-Err-clause-growth g c = λ e.
    let l = c.passes in
    left_needs c.args.more c.args.run.now c.args.path.now l.left l.run l.path l.invariant (pass_needs l.run l.path l.left (c.in-Err.ensures.growth (as_refused c.in-Err.stop e)))
