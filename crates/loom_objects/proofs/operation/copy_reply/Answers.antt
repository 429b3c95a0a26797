use Rattle.loom_objects.proofs.Replies.{no_list}
use Rattle.loom_objects.proofs.operation.copy_reply.Goals as goal

pub copy_single-requires : goal.copy_single-requires
copy_single-requires g c = no_list c.args.reply.now c.in_default.not-Messages c.in_default.not-Locals c.in_default.not-Lazies
