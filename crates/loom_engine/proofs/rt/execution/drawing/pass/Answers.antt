use Rattle.std.specs.Prelude.{Ok, Err}
use Rattle.loom_engine.proofs.Execution.Drawing.{more_by, nobody_drawn, none_drawn, stays_drawn, thread_drawn, unnoted_drawn}
use Rattle.loom_engine.proofs.rt.execution.drawing.pass.Goals as goal

pub access-requires : goal.access-requires
access-requires g c = rw c.in-Ok-Some.field-0-is at c.in-Ok-Some.ensures.within

pub take_turn-requires : goal.take_turn-requires
take_turn-requires g c = stays_drawn c.args.path.now c.draw_thread.new.self c.requires c.draw_thread.ensures.past c.draw_thread.ensures.same

pub close-requires : goal.close-requires
close-requires g c = stays_drawn c.args.path.now c.draw_thread.new.self c.requires c.draw_thread.ensures.past c.draw_thread.ensures.same

pub returns-in-Err-clause-along : goal.returns-in-Err-clause-along
returns-in-Err-clause-along g c = none_drawn c.args.run.now c.offers.result c.args.path.now c.requires c.offers.ensures.offers c.in-Err.stop c.draw_thread.new.self c.in-Err.ensures.says

pub returns-in-Err-access-clause-along : goal.returns-in-Err-access-clause-along
returns-in-Err-access-clause-along g c =
    let says = rw c.in-Ok-Some.field-0-is at c.in-Ok-Some.ensures.says in
    unnoted_drawn c.args.run.now c.offers.result c.args.path.now c.requires c.offers.ensures.offers c.draw_thread.new.self c.draw_thread.ensures.same c.in-Ok-Some.thread c.position-place.result says
    c.in-Err-access.stop c.access.new.run c.position-place.ensures c.in-Err-access.ensures.notes

pub returns-in-Ok-clause-along : goal.returns-in-Ok-clause-along
returns-in-Ok-clause-along g c =
    let says = rw c.in-Ok-Some.field-0-is at c.in-Ok-Some.ensures.says in
    thread_drawn c.args.run.now c.offers.result c.args.path.now c.requires c.offers.ensures.offers c.draw_thread.new.self c.draw_thread.ensures.same c.in-Ok-Some.thread c.position-place.result says
    c.access.new.run c.position-place.ensures c.in-Ok.ensures.notes c.access.ensures.state c.take_turn.result c.take_turn.new.run c.take_turn.new.path c.take_turn.ensures.more c.take_turn.ensures.along

pub returns-in-Ok-clause-more : goal.returns-in-Ok-clause-more
returns-in-Ok-clause-more g c = more_by c.args.path.now c.draw_thread.new.self c.take_turn.new.path c.draw_thread.ensures.more c.take_turn.ensures.more

pub returns-in-Err-close-clause-along : goal.returns-in-Err-close-clause-along
returns-in-Err-close-clause-along g c =
    let says = rw c.in-Ok-None.field-0-is at c.in-Ok-None.ensures.says in
    nobody_drawn c.args.run.now c.offers.result c.args.path.now c.requires c.offers.ensures.offers c.draw_thread.new.self c.draw_thread.ensures.same says (Err c.in-Err-close.stop) c.close.new.run
    c.in-Err-close.ensures.along

pub returns-in-Ok-close-clause-along : goal.returns-in-Ok-close-clause-along
returns-in-Ok-close-clause-along g c =
    let says = rw c.in-Ok-None.field-0-is at c.in-Ok-None.ensures.says in
    nobody_drawn c.args.run.now c.offers.result c.args.path.now c.requires c.offers.ensures.offers c.draw_thread.new.self c.draw_thread.ensures.same says (Ok c.in-Ok-close.turn) c.close.new.run
    c.in-Ok-close.ensures.along
