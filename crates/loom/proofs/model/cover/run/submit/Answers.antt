use Rattle.loom_engine.specs.Covering.Kept.{beside}
use Rattle.loom.proofs.ModelLemmas.Covering.{begun_branches, begun_stops, begun_turns, on_ok, over_then, passes_so, stays_open}
use Rattle.loom.proofs.ModelLemmas.CoverSnapshots.{begun_keeps}
use Rattle.loom.proofs.ModelLemmas.Handing.{joined}
use Rattle.loom_engine.specs.declared.rt.execution.Begun.TheVariants as begun
use Rattle.loom.proofs.model.cover.run.submit.Goals as goal

pub returns-in-Err-begin-clause-event : goal.returns-in-Err-begin-clause-event
returns-in-Err-begin-clause-event g c = λ run h.
    begun_stops g.B.Body.next run c.args.bodies.now.items c.args.execution.now c.begin.new.self c.args.path.now c.begin.new.path c.args.op (beside c.args.known.now c.args.states.now) c.requires c.begin.ensures.same.0
    c.split-request.result.0 c.split-request.ensures.plain h c.in-Err-begin.stop c.in-Err-begin.ensures.event c.add_child.new.bodies.items

pub returns-in-Ok-Turn-clause-event : goal.returns-in-Ok-Turn-clause-event
returns-in-Ok-Turn-clause-event g c = λ run h.
    begun_turns g.B.Body.next run c.args.bodies.now.items c.args.execution.now c.begin.new.self c.args.path.now c.begin.new.path c.args.op (beside c.args.known.now c.args.states.now) c.requires c.begin.ensures.same.0
    c.split-request.result.0 c.split-request.ensures.plain h c.in-Ok-Turn.turn (rw c.in-Ok-Turn.field-0-is at c.in-Ok-Turn.ensures.event) c.in-Ok-Turn.ensures.steps
    c.add_child.new.bodies.items (rw c.split-request.ensures.started at c.in-Ok.ensures.more)

pub returns-in-Ok-Turn-clause-open : goal.returns-in-Ok-Turn-clause-open
returns-in-Ok-Turn-clause-open g c =
    stays_open c.in-Ok-Turn.turn c.begin.new.self.over
    (over_then c.args.execution.now c.begin.new.self c.split-request.result.0 c.args.path.now c.begin.new.path (begun.Turn c.in-Ok-Turn.turn) c.requires (rw c.in-Ok-Turn.field-0-is at c.in-Ok-Turn.ensures.event))

pub keep_and_pass-requires : goal.keep_and_pass-requires
keep_and_pass-requires g c =
    over_then c.args.execution.now c.begin.new.self c.split-request.result.0 c.args.path.now c.begin.new.path begun.AtBranch c.requires (rw c.in-Ok-AtBranch.field-0-is at c.in-Ok-AtBranch.ensures.event)

pub returns-in-Ok-AtBranch-clause-event : goal.returns-in-Ok-AtBranch-clause-event
returns-in-Ok-AtBranch-clause-event g c = λ run h.
    let grown = rw c.split-request.ensures.started at c.in-Ok.ensures.more in
    let at = begun_branches g.B.Body.next run c.args.bodies.now.items c.args.execution.now c.begin.new.self c.args.path.now c.begin.new.path c.args.op (beside c.args.known.now c.args.states.now) c.requires c.begin.ensures.same.0
    c.split-request.result.0 c.split-request.ensures.plain h (rw c.in-Ok-AtBranch.field-0-is at c.in-Ok-AtBranch.ensures.event) c.in-Ok-AtBranch.ensures.steps c.add_child.new.bodies.items grown in
    passes_so g.B.Body.next run c.add_child.new.bodies.items c.begin.new.self c.keep_and_pass.new.execution c.begin.new.path c.keep_and_pass.new.path (beside c.args.known.now c.args.states.now) (beside c.args.known.now c.keep_and_pass.new.states)
    (over_then c.args.execution.now c.begin.new.self c.split-request.result.0 c.args.path.now c.begin.new.path begun.AtBranch c.requires (rw c.in-Ok-AtBranch.field-0-is at c.in-Ok-AtBranch.ensures.event))
    c.keep_and_pass.ensures.same.0 at c.keep_and_pass.result (rw c.as_slice.ensures.value at c.keep_and_pass.ensures.event) c.keep_and_pass.ensures.steps

pub returns-in-Ok-AtBranch-clause-steps : goal.returns-in-Ok-AtBranch-clause-steps
returns-in-Ok-AtBranch-clause-steps g c = on_ok c.keep_and_pass.result (rw (← c.keep_and_pass.ensures.steps) at c.in-Ok-AtBranch.ensures.steps)

pub returns-in-Ok-AtBranch-clause-same : goal.returns-in-Ok-AtBranch-clause-same
returns-in-Ok-AtBranch-clause-same g c = joined c.args.path.now c.begin.new.path c.keep_and_pass.new.path c.begin.ensures.same c.keep_and_pass.ensures.same

pub returns-in-Ok-Turn-clause-kept : goal.returns-in-Ok-Turn-clause-kept
returns-in-Ok-Turn-clause-kept g c = λ run h kept.
    begun_keeps g.B.Body.next run c.args.bodies.now.items c.args.execution.now c.begin.new.self c.args.path.now c.begin.new.path c.args.op (beside c.args.known.now c.args.states.now) c.requires c.begin.ensures.same.0
    c.split-request.result.0 c.split-request.ensures.plain h (begun.Turn c.in-Ok-Turn.turn) (rw c.in-Ok-Turn.field-0-is at c.in-Ok-Turn.ensures.event) c.args.snapshots.now kept

pub returns-in-Ok-AtBranch-clause-kept : goal.returns-in-Ok-AtBranch-clause-kept
returns-in-Ok-AtBranch-clause-kept g c = λ run h kept.
    let grown = rw c.split-request.ensures.started at c.in-Ok.ensures.more in
    let at = begun_branches g.B.Body.next run c.args.bodies.now.items c.args.execution.now c.begin.new.self c.args.path.now c.begin.new.path c.args.op (beside c.args.known.now c.args.states.now) c.requires c.begin.ensures.same.0
    c.split-request.result.0 c.split-request.ensures.plain h (rw c.in-Ok-AtBranch.field-0-is at c.in-Ok-AtBranch.ensures.event) c.in-Ok-AtBranch.ensures.steps c.add_child.new.bodies.items grown in
    c.keep_and_pass.ensures.kept run (rw (← c.as_slice.ensures.value) at at)
    (begun_keeps g.B.Body.next run c.args.bodies.now.items c.args.execution.now c.begin.new.self c.args.path.now c.begin.new.path c.args.op (beside c.args.known.now c.args.states.now) c.requires c.begin.ensures.same.0
    c.split-request.result.0 c.split-request.ensures.plain h begun.AtBranch (rw c.in-Ok-AtBranch.field-0-is at c.in-Ok-AtBranch.ensures.event) c.args.snapshots.now kept)
