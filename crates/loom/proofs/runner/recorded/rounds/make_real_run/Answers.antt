use Rattle.std.proofs.Common.{List, inl, sym, subst}
use Rattle.std.specs.Fn.{CalledAtMut}
use Rattle.loom.specs.Runner.Histories.{Share}
use Rattle.loom.specs.Runner.Run.{WasCalled}
use Rattle.loom.proofs.Closures.Refusing.{handed_on}
use Rattle.loom.proofs.RunnerLemmas.Rounds.{by_host_alone, real_made}
use Rattle.loom.proofs.runner.recorded.rounds.make_real_run.Goals as goal

pub returns-clause-made : goal.returns-clause-made
returns-clause-made g c =
    let seen : WasCalled (CalledAtMut g.F.FnMut) c.args.closure.now c.call_closure.new.closure c.as_slice.result.now =
    subst (λ (all : List (Share _)). WasCalled (CalledAtMut g.F.FnMut) c.args.closure.now c.call_closure.new.closure all) (sym c.as_slice.ensures.value) c.in_ok-told.ensures.called in
    real_made (CalledAtMut g.F.FnMut) c.args.limits c.args.closure.now c.call_closure.new.closure c.args.path.now c.deref_mut.result.now c.as_slice.result.now seen c.settled_events.result c.settled_events.ensures.settled

pub returns-in_err-shared-clause-errors : goal.returns-in_err-shared-clause-errors
returns-in_err-shared-clause-errors g c =
    handed_on c.from_residual.result c.in_err-shared.field-0.0 _ c.from_residual.ensures.1 (by_host_alone c.in_err-shared.field-0.0 (inl c.in_err-shared.ensures))

pub returns-in_err-told-clause-errors : goal.returns-in_err-told-clause-errors
returns-in_err-told-clause-errors g c =
    handed_on c.from_residual-in_err-told.result c.in_err-told.field-0.0 _ c.from_residual-in_err-told.ensures.1 (by_host_alone c.in_err-told.field-0.0 c.in_err-told.ensures.errors)
