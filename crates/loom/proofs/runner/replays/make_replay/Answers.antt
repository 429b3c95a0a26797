use Rattle.std.proofs.Common.{◌∙◌, sym}
use Rattle.std.specs.Fn.{CalledAtMut}
use Rattle.loom.specs.declared.runner.replays.Keeper.{Keeper}
use Rattle.loom.specs.Runner.Replay.{HasKept}
use Rattle.loom.proofs.Closures.Refusing.{handed_on, no_replay, not_kept}
use Rattle.loom.proofs.runner.replays.make_replay.Goals as goal

pub returns-in_err-failure-clause-errors : goal.returns-in_err-failure-clause-errors
returns-in_err-failure-clause-errors g c =
    handed_on c.from_residual.result c.in_err-failure.field-0.0 _ c.from_residual.ensures.1
    (no_replay (CalledAtMut g.F.FnMut) (λ old choices value new. HasKept choices value new.run) c.args.limits c.args.closure.now c.args.keeper.now c.make_run.new.visitor c.args.path.now c.in_err-failure.field-0.0
    c.in_err-failure.ensures.errors)

pub returns-clause-errors : goal.returns-clause-errors
returns-clause-errors g c =
    absurd (not_kept (CalledAtMut g.F.FnMut) (λ (k : Keeper _). k.run) c.args.limits c.args.closure.now c.make_run.new.closure c.args.keeper.now c.make_run.new.visitor c.args.path.now c.in-Ended.field-0
    c.in_ok-failure.field-0 c.in_ok-failure.ensures.made c.in-Ended.is (sym c.take.ensures.value ∙ c.in-None.is))
