use Rattle.std.proofs.Common.{sym}
use Rattle.loom.proofs.Closures.Erring.{kept}
use Rattle.loom.proofs.runner.error.RunnerErrorFromCheckError.from.Goals as goal

pub returns-in_default : goal.returns-in_default
returns-in_default c = sym (kept c.args.why c.in_default.not-Memory)
