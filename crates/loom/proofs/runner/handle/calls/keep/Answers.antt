use Rattle.std.proofs.Common.{ap, Some}
use Rattle.loom.proofs.runner.handle.calls.keep.Goals as goal

pub returns-in-Ok-copy_reply-clause-answered : goal.returns-in-Ok-copy_reply-clause-answered
returns-in-Ok-copy_reply-clause-answered g c = ap Some c.in-Ok-copy_reply.ensures
