use Rattle.std.proofs.Common.{List, inl, sym, subst}
use Rattle.std.specs.Fn.{CalledAtMut}
use Rattle.loom.specs.Runner.Check.{limits_of}
use Rattle.loom.specs.Runner.Histories.{Share}
use Rattle.loom.specs.Runner.Run.{WasCalled}
use Rattle.loom.proofs.Closures.Refusing.{handed_on, weaker}
use Rattle.loom.proofs.Closures.Walking.{refused_drawn, run_drawn, unjudged_drawn}
use Rattle.loom.proofs.runner.drawn.draw_run.Goals as goal

pub returns-clause-made : goal.returns-clause-made
returns-clause-made g c =
    let seen : WasCalled (CalledAtMut g.F.FnMut) c.args.closure.now c.call_main.new.closure c.as_slice.result.now =
    subst (λ (all : List (Share _)). WasCalled (CalledAtMut g.F.FnMut) c.args.closure.now c.call_main.new.closure all) (sym c.as_slice.ensures.value) c.in_ok-told.ensures.called in
    run_drawn (CalledAtMut g.F.FnMut) g.V.Visitor.takes (limits_of c.args.builder.now) c.args.closure.now c.call_main.new.closure c.args.visitor.now c.judge.new.visitor c.args.path.now c.deref-state.result.now c.as_slice.result.now seen
    c.judge.result c.judge.ensures.judged

pub returns-clause-errors : goal.returns-clause-errors
returns-clause-errors g c =
    let seen : WasCalled (CalledAtMut g.F.FnMut) c.args.closure.now c.call_main.new.closure c.as_slice.result.now =
    subst (λ (all : List (Share _)). WasCalled (CalledAtMut g.F.FnMut) c.args.closure.now c.call_main.new.closure all) (sym c.as_slice.ensures.value) c.in_ok-told.ensures.called in
    weaker c.judge.result _ _
    (unjudged_drawn (CalledAtMut g.F.FnMut) g.V.Visitor.takes (limits_of c.args.builder.now) c.args.closure.now c.call_main.new.closure c.args.visitor.now c.judge.new.visitor c.args.path.now c.deref-state.result.now c.as_slice.result.now seen)
    c.judge.ensures.errors

pub returns-in_err-shared-clause-errors : goal.returns-in_err-shared-clause-errors
returns-in_err-shared-clause-errors g c =
    handed_on c.from_residual.result c.in_err-shared.field-0.0 _ c.from_residual.ensures.1
    (refused_drawn (CalledAtMut g.F.FnMut) g.V.Visitor.takes (limits_of c.args.builder.now) c.args.closure.now c.args.visitor.now c.args.path.now c.in_err-shared.field-0.0 (inl c.in_err-shared.ensures))

pub returns-in_err-told-clause-errors : goal.returns-in_err-told-clause-errors
returns-in_err-told-clause-errors g c =
    handed_on c.from_residual-in_err-told.result c.in_err-told.field-0.0 _ c.from_residual-in_err-told.ensures.1
    (refused_drawn (CalledAtMut g.F.FnMut) g.V.Visitor.takes (limits_of c.args.builder.now) c.args.closure.now c.args.visitor.now c.args.path.now c.in_err-told.field-0.0 c.in_err-told.ensures.errors)
