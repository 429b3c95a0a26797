use Rattle.std.proofs.Common.{List, inl, sym, subst}
use Rattle.std.specs.Fn.{CalledAtMut}
use Rattle.loom.specs.Runner.Histories.{Share}
use Rattle.loom.specs.Runner.Run.{WasCalled}
use Rattle.loom.proofs.Closures.Explaining.{told_along, untold_along}
use Rattle.loom.proofs.Closures.Refusing.{handed_on, weaker}
use Rattle.loom.proofs.runner.explanations.explain_along.Goals as goal

pub returns-clause-explains : goal.returns-clause-explains
returns-clause-explains g c =
    let was : WasCalled (CalledAtMut g.F.FnMut) c.args.closure.now c.call_closure.new.closure c.as_slice.result.now =
    subst (λ (all : List (Share _)). WasCalled (CalledAtMut g.F.FnMut) c.args.closure.now c.call_closure.new.closure all) (sym c.as_slice.ensures.value) c.in_ok-told.ensures.called in
    told_along (CalledAtMut g.F.FnMut) c.args.limits c.args.builder.now c.args.closure.now c.call_closure.new.closure c.args.path.now c.deref-2.result.now c.as_slice.result.now was c.tell.result c.tell.ensures.told

pub returns-clause-errors : goal.returns-clause-errors
returns-clause-errors g c =
    let was : WasCalled (CalledAtMut g.F.FnMut) c.args.closure.now c.call_closure.new.closure c.as_slice.result.now =
    subst (λ (all : List (Share _)). WasCalled (CalledAtMut g.F.FnMut) c.args.closure.now c.call_closure.new.closure all) (sym c.as_slice.ensures.value) c.in_ok-told.ensures.called in
    weaker c.tell.result _ _
    (untold_along (CalledAtMut g.F.FnMut) c.args.limits c.args.closure.now c.call_closure.new.closure c.args.path.now c.deref-2.result.now c.as_slice.result.now was) c.tell.ensures.errors

pub returns-in_err-shared-clause-errors : goal.returns-in_err-shared-clause-errors
returns-in_err-shared-clause-errors g c = handed_on c.from_residual.result c.in_err-shared.field-0.0 _ c.from_residual.ensures.1 (inl (inl c.in_err-shared.ensures))

pub returns-in_err-told-clause-errors : goal.returns-in_err-told-clause-errors
returns-in_err-told-clause-errors g c = handed_on c.from_residual-in_err-told.result c.in_err-told.field-0.0 _ c.from_residual-in_err-told.ensures.1 (inl c.in_err-told.ensures.errors)
