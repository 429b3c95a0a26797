use Rattle.std.proofs.Common.{inl, inr, refl, sym}
use Rattle.std.specs.Fn.{CalledAtMut}
use Rattle.loom.proofs.Closures.Erring.{refused_alone, settings_on}
use Rattle.loom.proofs.Closures.Refusing.{no_replays}
use Rattle.loom.proofs.runner.replays.replay.Goals as goal

pub returns-in_err-test-clause-errors : goal.returns-in_err-test-clause-errors
returns-in_err-test-clause-errors g c =
    settings_on c.args.builder.now c.from_residual.result c.in_err-test.field-0.0 _ c.from_residual.ensures.1 (sym c.in_err-test.ensures.tested) (inl (c.in_err-test.field-0.0, refl, sym c.in_err-test.ensures.tested))

pub returns-in_err-test-clause-refused : goal.returns-in_err-test-clause-refused
returns-in_err-test-clause-refused g c = refused_alone c.args.builder.now c.from_residual.result c.in_err-test.field-0.0 c.from_residual.ensures.1 (sym c.in_err-test.ensures.tested)

pub returns-in_default-clause-errors : goal.returns-in_default-clause-errors
returns-in_default-clause-errors g c = inr (sym c.in_ok-test.ensures.tested, inl (inl refl))

pub returns-clause-errors : goal.returns-clause-errors
returns-clause-errors g c =
    no_replays (CalledAtMut g.F.FnMut) c.args.builder.now c.args.choices.now c.args.closure _ _ c.make_replay.result (sym c.in_ok-test.ensures.tested) refl c.in-Ok.ensures c.make_replay.ensures.errors
