use Rattle.std.proofs.Common.{subst, inl}
use Rattle.std.specs.Prelude.{⊤}
use Rattle.loom_engine.specs.Execution.{MayBeRefused}
use Rattle.loom_objects.specs.declared.operation.Request.{Request}
use Rattle.loom.proofs.ModelLemmas.Handing.{before_the_end}
use Rattle.loom.proofs.model.run.submit.Goals as goal

pub returns-in-Ok-clause-growth : goal.returns-in-Ok-clause-growth
returns-in-Ok-clause-growth g c = λ e.
    let event = before_the_end c.args.execution.now c.submit.new.self c.split-request.result.0 c.args.path.now c.submit.new.path c.submit.result c.requires c.submit.ensures.event in
    inl (subst (λ (o : Request _ ⊤). MayBeRefused o c.args.execution.now.run c.args.path.now) c.split-request.ensures.plain (event.2 e))
