use Rattle.loom_engine.specs.Covering.Kept.{Noted, beside}
use Rattle.loom.specs.Model.Cover.{Passes}
use Rattle.std.proofs.Common.{subst}
use Rattle.loom.proofs.runner.recorded.covering.run.pass_at.Goals as goal

pub returns-in-Ok-clause-event : goal.returns-in-Ok-clause-event
returns-in-Ok-clause-event g c =
    subst (λ (known : Noted _ _). Passes c.args.places.now c.args.execution.now c.args.path.now (beside known c.args.states.now) c.pass.result c.pass.new.execution c.pass.new.path (beside known c.pass.new.states)) c.none-known.ensures
    (rw c.in-Ok.ensures at (rw c.as_slice.ensures.value at c.pass.ensures.event))
