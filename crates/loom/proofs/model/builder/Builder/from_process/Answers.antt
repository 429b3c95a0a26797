use Rattle.std.proofs.Common.{sym}
use Rattle.loom.proofs.model.builder.Builder.from_process.Goals as goal

pub returns : goal.returns
returns g c = (c.in_ok-env.env, sym c.in_ok-builder.ensures)
