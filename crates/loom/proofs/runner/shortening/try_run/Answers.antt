use Rattle.std.proofs.Common.{List, sym, subst}
use Rattle.std.specs.Fn.{CalledAtMut}
use Rattle.loom.specs.Runner.Check.{limits_of}
use Rattle.loom.specs.Runner.Histories.{Share}
use Rattle.loom.specs.Runner.Run.{WasCalled}
use Rattle.loom.proofs.Closures.Refusing.{weaker}
use Rattle.loom.proofs.Closures.Shortening.{run_not_tried, run_tried}
use Rattle.loom.proofs.runner.shortening.try_run.Goals as goal

pub returns-clause-tries : goal.returns-clause-tries
returns-clause-tries g c =
    let seen : WasCalled (CalledAtMut g.F.FnMut) c.args.closure.now c.call_closure.new.closure c.as_slice-told.result.now =
    subst (λ (all : List (Share _)). WasCalled (CalledAtMut g.F.FnMut) c.args.closure.now c.call_closure.new.closure all) (sym c.as_slice-told.ensures.value) c.in_ok-told.ensures.called in
    rw (← c.is_some-is_drawn.ensures) (run_tried (CalledAtMut g.F.FnMut) (limits_of c.args.builder.now) c.is_some-is_drawn.result c.args.path.now c.args.closure.now c.call_closure.new.closure c.deref_mut.result.now
    c.as_slice-told.result.now seen c.judge.result c.judge.new.last c.judge.ensures.tried)

pub returns-clause-errors : goal.returns-clause-errors
returns-clause-errors g c =
    let seen : WasCalled (CalledAtMut g.F.FnMut) c.args.closure.now c.call_closure.new.closure c.as_slice-told.result.now =
    subst (λ (all : List (Share _)). WasCalled (CalledAtMut g.F.FnMut) c.args.closure.now c.call_closure.new.closure all) (sym c.as_slice-told.ensures.value) c.in_ok-told.ensures.called in
    rw (← c.is_some-is_drawn.ensures) (weaker c.judge.result _ _
    (run_not_tried (CalledAtMut g.F.FnMut) (limits_of c.args.builder.now) c.is_some-is_drawn.result c.args.path.now c.args.closure.now c.call_closure.new.closure c.deref_mut.result.now c.as_slice-told.result.now seen
    c.args.last.now c.args.number) c.judge.ensures.errors)
