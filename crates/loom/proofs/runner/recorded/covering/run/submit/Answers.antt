use Rattle.loom_engine.specs.declared.rt.execution.Begun.TheVariants as begun
use Rattle.loom.specs.Runner.Recorded.{by_function}
use Rattle.loom.specs.Runner.Recording.{all_told}
use Rattle.loom.proofs.ModelLemmas.Covering.{begun_branches, begun_stops, begun_turns, on_ok, over_then, passes_so, stays_open}
use Rattle.loom.proofs.ModelLemmas.Handing.{joined}
use Rattle.loom.proofs.RunnerLemmas.RecordedCover.{passes_told}
use Rattle.loom.proofs.runner.recorded.covering.run.submit.Goals as goal

pub returns-in-Err-clause-event : goal.returns-in-Err-clause-event
returns-in-Err-clause-event g c = λ does words before told run op is grown at h.
    begun_stops (by_function does) run before c.args.execution.now c.begin.new.self c.args.path.now c.begin.new.path op (all_told words c.args.states.now) c.requires c.begin.ensures.same.0 c.args.request is h
    c.in-Err.stop c.in-Err.ensures.event told

pub returns-in-Ok-Turn-clause-event : goal.returns-in-Ok-Turn-clause-event
returns-in-Ok-Turn-clause-event g c = λ does words before told run op is grown at h.
    begun_turns (by_function does) run before c.args.execution.now c.begin.new.self c.args.path.now c.begin.new.path op (all_told words c.args.states.now) c.requires c.begin.ensures.same.0 c.args.request is h
    c.in-Ok-Turn.turn (rw c.in-Ok-Turn.field-0-is at c.in-Ok-Turn.ensures.event) c.in-Ok-Turn.ensures.steps told grown

pub returns-in-Ok-Turn-clause-open : goal.returns-in-Ok-Turn-clause-open
returns-in-Ok-Turn-clause-open g c =
    stays_open c.in-Ok-Turn.turn c.begin.new.self.over
    (over_then c.args.execution.now c.begin.new.self c.args.request c.args.path.now c.begin.new.path (begun.Turn c.in-Ok-Turn.turn) c.requires (rw c.in-Ok-Turn.field-0-is at c.in-Ok-Turn.ensures.event))

pub pass_at-requires : goal.pass_at-requires
pass_at-requires g c =
    over_then c.args.execution.now c.begin.new.self c.args.request c.args.path.now c.begin.new.path begun.AtBranch c.requires (rw c.in-Ok-AtBranch.field-0-is at c.in-Ok-AtBranch.ensures.event)

pub returns-in-Ok-AtBranch-clause-event : goal.returns-in-Ok-AtBranch-clause-event
returns-in-Ok-AtBranch-clause-event g c = λ does words before told run op is grown at h.
    let branches = begun_branches (by_function does) run before c.args.execution.now c.begin.new.self c.args.path.now c.begin.new.path op (all_told words c.args.states.now) c.requires c.begin.ensures.same.0 c.args.request is h
    (rw c.in-Ok-AtBranch.field-0-is at c.in-Ok-AtBranch.ensures.event) c.in-Ok-AtBranch.ensures.steps told grown in
    let going = over_then c.args.execution.now c.begin.new.self c.args.request c.args.path.now c.begin.new.path begun.AtBranch c.requires (rw c.in-Ok-AtBranch.field-0-is at c.in-Ok-AtBranch.ensures.event) in
    passes_so (by_function does) run told c.begin.new.self c.pass_at.new.execution c.begin.new.path c.pass_at.new.path (all_told words c.args.states.now) (all_told words c.pass_at.new.states) going c.pass_at.ensures.same.0 branches
    c.pass_at.result
    (passes_told words c.args.places.now told at c.begin.new.self c.pass_at.new.execution c.begin.new.path c.pass_at.new.path c.args.states.now c.pass_at.new.states c.pass_at.result c.pass_at.ensures.event)
    c.pass_at.ensures.steps

pub returns-in-Ok-AtBranch-clause-steps : goal.returns-in-Ok-AtBranch-clause-steps
returns-in-Ok-AtBranch-clause-steps g c = on_ok c.pass_at.result (rw (← c.pass_at.ensures.steps) at c.in-Ok-AtBranch.ensures.steps)

pub returns-in-Ok-AtBranch-clause-same : goal.returns-in-Ok-AtBranch-clause-same
returns-in-Ok-AtBranch-clause-same g c = joined c.args.path.now c.begin.new.path c.pass_at.new.path c.begin.ensures.same c.pass_at.ensures.same
