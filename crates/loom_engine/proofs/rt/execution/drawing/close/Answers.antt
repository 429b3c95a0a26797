use Rattle.std.proofs.Common.{◌∙◌, ap, refl, sym}
use Rattle.loom_objects.specs.Rules.Ending.{all_ended}
use Rattle.loom_objects.specs.World.{World}
use Rattle.loom_engine.proofs.Execution.Drawing.{closes_drawn, open_drawn}
use Rattle.loom_engine.proofs.rt.execution.drawing.close.Goals as goal

pub returns-in-Err-clause-along : goal.returns-in-Err-clause-along
returns-in-Err-clause-along g c =
    rw c.failed.ensures
    (open_drawn c.args.run.now c.args._path.now c.requires c.all_ended.result (λ course shown. ap (λ (w : World _). all_ended w) shown.world.rest ∙ sym c.all_ended.ensures) c.in-Err.kind
    (sym c.may_end.ensures ∙ c.in-Err.is))

pub returns-in-Ok-clause-along : goal.returns-in-Ok-clause-along
returns-in-Ok-clause-along g c =
    closes_drawn c.args.run.now c.args._path.now c.requires c.all_ended.result (λ course shown. ap (λ (w : World _). all_ended w) shown.world.rest ∙ sym c.all_ended.ensures)
    (sym c.may_end.ensures ∙ c.in-Ok.is) c.end_run.result (record { state = c.end_run.new.run; dependence = c.args.run.now.dependence }) refl c.end_run.ensures.does
