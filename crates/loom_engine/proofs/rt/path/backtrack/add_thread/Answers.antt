use Rattle.std.proofs.Common.{ap, map, sym, subst, true, refl, ◌∙◌, rules, arith}
use Rattle.std.specs.Prelude.{slice_set}
use Rattle.loom_engine.specs.Walk.Path.{IsAtRest}
use Rattle.loom_engine.specs.Path.Nodes.{marked_status, seen_schedule, seen_threads}
use Rattle.loom_engine.specs.declared.rt.path.node.Status.TheVariants.{Disabled, Pending}
use Rattle.loom_engine.proofs.Path.Marking.Adding.{at_disabled, at_skipped, at_other, at_nobody, at_fixed, added_rests}
use Rattle.loom_engine.proofs.rt.path.backtrack.add_thread.Goals as goal
use Rattle.loom_engine.proofs.rt.path.backtrack.add_thread.Goals.{then-not-schedule-via-then-not-schedule, then-not-schedule-via-else-not-schedule+then-thread-ge-MAX_THREADS}

pub returns-then-not-schedule-clause-added : goal.returns-then-not-schedule-clause-added
returns-then-not-schedule-clause-added c = elim c.then-not-schedule.branch [
  | then-not-schedule-via-then-not-schedule w ↦ at_fixed c.args.schedule.now w.if-not-schedule.true c.args.thread
  | then-not-schedule-via-else-not-schedule+then-thread-ge-MAX_THREADS w ↦ at_nobody c.args.schedule.now w.if-not-schedule.false c.args.thread (omega (arith, c.are_five.ensures, w.if-thread-ge-MAX_THREADS.true))
]

pub returns-in-Disabled-clause-added : goal.returns-in-Disabled-clause-added
returns-in-Disabled-clause-added c =
    let n = c.args.schedule.now in
    ap (λ l. seen_schedule (record n { statuses = l })) c.marked_statuses-schedule.ensures ∙ at_disabled n c.if-not-schedule.false c.args.thread Disabled (search rules) c.in-Disabled.is

pub returns-in-Disabled-clause-rests : goal.returns-in-Disabled-clause-rests
returns-in-Disabled-clause-rests c =
    let n = c.args.schedule.now in
    subst (λ l. IsAtRest (seen_threads n.first true l)) (sym c.marked_statuses-schedule.ensures)
    (added_rests c.args.thread n (map marked_status n.statuses) (at_disabled (record n { exploring = true }) refl c.args.thread Disabled (search rules) c.in-Disabled.is) c.requires)

pub returns-in-Skip-clause-added : goal.returns-in-Skip-clause-added
returns-in-Skip-clause-added c = at_skipped c.args.schedule.now c.if-not-schedule.false c.args.thread Disabled (search rules) c.in-Skip.is

pub returns-in-Skip-clause-rests : goal.returns-in-Skip-clause-rests
returns-in-Skip-clause-rests c =
    let n = c.args.schedule.now in
    added_rests c.args.thread n (slice_set n.statuses c.args.thread Pending) (at_skipped (record n { exploring = true }) refl c.args.thread Disabled (search rules) c.in-Skip.is) c.requires

pub returns-in-Yield-clause-added : goal.returns-in-Yield-clause-added
returns-in-Yield-clause-added c =
    at_other c.args.schedule.now c.if-not-schedule.false c.args.thread Disabled (search rules) (λ e. grind (arith, c.in-Yield.is, e)) (λ e. grind (arith, c.in-Yield.is, e))
