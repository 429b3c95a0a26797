use Rattle.std.proofs.Common.{refl}
use Rattle.loom.proofs.Turns.Telling.{other_request, replied_entry, open_entry}
use Rattle.loom.proofs.runner.history.entry.is_entry.Goals as goal

pub returns-then-not-is_same_request : goal.returns-then-not-is_same_request
returns-then-not-is_same_request g c = other_request c.args.told.now c.args.op.now _ c.if-not-is_same_request.ensures.1

pub returns-in-Some-reply : goal.returns-in-Some-reply
returns-in-Some-reply g c =
    replied_entry c.args.told.now c.args.op.now _ c.in-Some-reply.x c.in-Some.reply.now c.is_same_reply.result (c.if-not-is_same_request.ensures.0 refl) c.in-Some-reply.is c.in-Some.ensures c.is_same_reply.ensures

pub returns-in-None : goal.returns-in-None
returns-in-None g c = open_entry c.args.told.now c.args.op.now _ c.is_none.result (c.if-not-is_same_request.ensures.0 refl) c.in-None.ensures c.is_none.ensures
