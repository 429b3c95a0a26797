use Rattle.std.proofs.Common.{List, inl, inr, refl, sym, subst}
use Rattle.std.specs.Fn.{CalledAtMut}
use Rattle.loom.specs.Runner.Histories.{Share}
use Rattle.loom.specs.Runner.Handle.{Leading, Closes, newcomer}
use Rattle.loom.specs.Runner.Run.{WasCalled}
use Rattle.loom.proofs.Closures.Alike.{next_made, unjudged_next}
use Rattle.loom.proofs.Closures.Refusing.{by_host, handed_on, weaker}
use Rattle.loom.proofs.RunnerLemmas.Made.{run_made}
use Rattle.loom.proofs.runner.run.make_next_run.Goals as goal

pub returns-clause-made : goal.returns-clause-made
returns-clause-made g c =
    let w = c.in_ok-told.ensures.called in
    let seen =
    subst (λ (all : List (Share _)). Leading w.handle.thread all (Closes w.handle.told w.answer)) (sym c.as_slice.ensures.value) w.main in
    run_made (CalledAtMut g.F.FnMut) g.V.Visitor.takes c.args.limits c.args.closure.now c.call_main.new.closure c.args.visitor.now c.judge.new.visitor c.args.path.now
    c.deref_mut.result.now c.as_slice.result.now (newcomer 0) w.handle w.answer refl w.call seen c.judge.result c.judge.ensures.judged

pub returns-clause-next : goal.returns-clause-next
returns-clause-next g c =
    let seen : WasCalled (CalledAtMut g.F.FnMut) c.args.closure.now c.call_main.new.closure c.as_slice.result.now =
    subst (λ (all : List (Share _)). WasCalled (CalledAtMut g.F.FnMut) c.args.closure.now c.call_main.new.closure all) (sym c.as_slice.ensures.value) c.in_ok-told.ensures.called in
    next_made (CalledAtMut g.F.FnMut) g.V.Visitor.takes c.args.limits c.args.closure.now c.call_main.new.closure c.args.visitor.now c.judge.new.visitor c.args.path.now c.args.last.now c.judge.new.last
    c.deref_mut.result.now c.as_slice.result.now seen c.judge.result c.judge.ensures.judged c.judge.ensures.next

pub returns-clause-errors : goal.returns-clause-errors
returns-clause-errors g c =
    let seen : WasCalled (CalledAtMut g.F.FnMut) c.args.closure.now c.call_main.new.closure c.as_slice.result.now =
    subst (λ (all : List (Share _)). WasCalled (CalledAtMut g.F.FnMut) c.args.closure.now c.call_main.new.closure all) (sym c.as_slice.ensures.value) c.in_ok-told.ensures.called in
    weaker c.judge.result _ _
    (unjudged_next (CalledAtMut g.F.FnMut) g.V.Visitor.takes c.args.limits c.args.closure.now c.call_main.new.closure c.args.visitor.now c.judge.new.visitor c.args.path.now c.args.last.now c.args.number
    c.deref_mut.result.now c.as_slice.result.now seen) c.judge.ensures.errors

pub returns-in_err-shared-clause-errors : goal.returns-in_err-shared-clause-errors
returns-in_err-shared-clause-errors g c =
    handed_on c.from_residual.result c.in_err-shared.field-0.0 _ c.from_residual.ensures.1
    (inr (by_host (CalledAtMut g.F.FnMut) g.V.Visitor.takes c.args.limits c.args.closure.now c.args.visitor.now c.args.path.now c.in_err-shared.field-0.0 (inl c.in_err-shared.ensures)))

pub returns-in_err-told-clause-errors : goal.returns-in_err-told-clause-errors
returns-in_err-told-clause-errors g c =
    handed_on c.from_residual-in_err-told.result c.in_err-told.field-0.0 _ c.from_residual-in_err-told.ensures.1
    (inr (by_host (CalledAtMut g.F.FnMut) g.V.Visitor.takes c.args.limits c.args.closure.now c.args.visitor.now c.args.path.now c.in_err-told.field-0.0 c.in_err-told.ensures.errors))
