use Rattle.loom_objects.proofs.Replies.{no_list}
use Rattle.loom_objects.proofs.operation.bare_reply.Goals as goal

pub bare_single-requires : goal.bare_single-requires
bare_single-requires g c = no_list c.args.reply.now c.in_default.not-Messages c.in_default.not-Locals c.in_default.not-Lazies
