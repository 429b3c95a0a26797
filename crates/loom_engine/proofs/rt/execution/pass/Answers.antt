use Rattle.std.proofs.Common.{◌∙◌}
use Rattle.std.specs.Prelude.{Ok, Err}
use Rattle.loom_engine.proofs.Execution.Executing.{IsSchedule, access_refused, nobody_chosen, noted_by, schedule_refused, thread_chosen}
use Rattle.loom_engine.proofs.Execution.Growing.{thread_needs, thread_refused}
use Rattle.loom_engine.proofs.rt.execution.pass.Goals as goal

pub access-requires : goal.access-requires
access-requires g c = rw c.in-Ok-Some.field-0-is at c.in-Ok-Some.ensures.within

pub returns-in-Err-clause-along : goal.returns-in-Err-clause-along
returns-in-Err-clause-along g c =
    let s : IsSchedule c.args.run.now c.offers.result c.args.path.now c.mark.new.path = record { offered_is = c.offers.ensures.offers; marks = c.mark.ensures.marks; same = c.mark.ensures.same } in
    schedule_refused c.args.run.now c.offers.result c.args.path.now c.mark.new.path s c.branch_thread.new.self c.in-Err.stop c.in-Err.ensures.says

pub returns-in-Err-clause-growth : goal.returns-in-Err-clause-growth
returns-in-Err-clause-growth g c = λ e.
    let s : IsSchedule c.args.run.now c.offers.result c.args.path.now c.mark.new.path = record { offered_is = c.offers.ensures.offers; marks = c.mark.ensures.marks; same = c.mark.ensures.same } in
    thread_refused c.args.run.now c.offers.result c.args.path.now c.mark.new.path s c.branch_thread.new.self c.in-Err.stop c.in-Err.ensures.says e

pub returns-in-Err-access-clause-along : goal.returns-in-Err-access-clause-along
returns-in-Err-access-clause-along g c =
    let s : IsSchedule c.args.run.now c.offers.result c.args.path.now c.mark.new.path = record { offered_is = c.offers.ensures.offers; marks = c.mark.ensures.marks; same = c.mark.ensures.same } in
    let says = rw c.in-Ok-Some.field-0-is at c.in-Ok-Some.ensures.says in
    access_refused c.args.run.now c.offers.result c.args.path.now c.mark.new.path s c.branch_thread.new.self c.branch_thread.ensures.same c.in-Ok-Some.thread says c.in-Err-access.stop c.access.new.run
    (noted_by c.args.run.now c.args.path.now c.branch_thread.new.self (c.branch_thread.ensures.same.0.0 ∙ c.mark.ensures.same.0.0) c.in-Ok-Some.thread c.position-place.result (Err c.in-Err-access.stop) c.access.new.run.dependence c.position-place.ensures c.in-Err-access.ensures.notes)

pub returns-in-Ok-clause-along : goal.returns-in-Ok-clause-along
returns-in-Ok-clause-along g c =
    let s : IsSchedule c.args.run.now c.offers.result c.args.path.now c.mark.new.path = record { offered_is = c.offers.ensures.offers; marks = c.mark.ensures.marks; same = c.mark.ensures.same } in
    let says = rw c.in-Ok-Some.field-0-is at c.in-Ok-Some.ensures.says in
    thread_chosen c.args.run.now c.offers.result c.args.path.now c.mark.new.path s c.branch_thread.new.self c.branch_thread.ensures.same c.in-Ok-Some.thread says c.access.new.run
    (noted_by c.args.run.now c.args.path.now c.branch_thread.new.self (c.branch_thread.ensures.same.0.0 ∙ c.mark.ensures.same.0.0) c.in-Ok-Some.thread c.position-place.result (Ok tt) c.access.new.run.dependence c.position-place.ensures c.in-Ok.ensures.notes)
    c.access.ensures.state c.take_turn.result c.take_turn.new.run c.take_turn.new.path c.take_turn.ensures.along

pub returns-in-Ok-clause-growth : goal.returns-in-Ok-clause-growth
returns-in-Ok-clause-growth g c = λ e.
    let s : IsSchedule c.args.run.now c.offers.result c.args.path.now c.mark.new.path = record { offered_is = c.offers.ensures.offers; marks = c.mark.ensures.marks; same = c.mark.ensures.same } in
    let says = rw c.in-Ok-Some.field-0-is at c.in-Ok-Some.ensures.says in
    thread_needs c.args.run.now c.offers.result c.args.path.now c.mark.new.path s c.in-Ok-Some.thread c.branch_thread.new.self c.branch_thread.ensures.same says c.access.new.run
    (noted_by c.args.run.now c.args.path.now c.branch_thread.new.self (c.branch_thread.ensures.same.0.0 ∙ c.mark.ensures.same.0.0) c.in-Ok-Some.thread c.position-place.result (Ok tt) c.access.new.run.dependence c.position-place.ensures c.in-Ok.ensures.notes)
    c.access.ensures.state (c.take_turn.ensures.growth e)

pub returns-in-Err-close-clause-along : goal.returns-in-Err-close-clause-along
returns-in-Err-close-clause-along g c =
    let s : IsSchedule c.args.run.now c.offers.result c.args.path.now c.mark.new.path = record { offered_is = c.offers.ensures.offers; marks = c.mark.ensures.marks; same = c.mark.ensures.same } in
    let says = rw c.in-Ok-None.field-0-is at c.in-Ok-None.ensures.says in
    nobody_chosen c.args.run.now c.offers.result c.args.path.now c.mark.new.path s c.branch_thread.new.self c.branch_thread.ensures.same says (Err c.in-Err-close.stop) c.close.new.run c.branch_thread.new.self
    c.in-Err-close.ensures.along

pub returns-in-Ok-close-clause-along : goal.returns-in-Ok-close-clause-along
returns-in-Ok-close-clause-along g c =
    let s : IsSchedule c.args.run.now c.offers.result c.args.path.now c.mark.new.path = record { offered_is = c.offers.ensures.offers; marks = c.mark.ensures.marks; same = c.mark.ensures.same } in
    let says = rw c.in-Ok-None.field-0-is at c.in-Ok-None.ensures.says in
    nobody_chosen c.args.run.now c.offers.result c.args.path.now c.mark.new.path s c.branch_thread.new.self c.branch_thread.ensures.same says (Ok c.in-Ok-close.turn) c.close.new.run c.branch_thread.new.self
    c.in-Ok-close.ensures.along
