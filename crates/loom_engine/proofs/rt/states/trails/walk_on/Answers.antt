use Rattle.std.proofs.Common.{◌≡◌, ◌≤◌, ◌+◌, suc, length, subst, sym, arith}
use Rattle.loom_engine.specs.Covering.Trails.{AreSteps, IsLead, KeepsLists}
use Rattle.loom_engine.proofs.Covering.Trails.{Going, from_within, going_ends, going_leads, going_on, going_starts}
use Rattle.loom_engine.proofs.rt.states.trails.walk_on.Goals as goal

pub loop-place-init : goal.loop-place-init
loop-place-init c = going_starts c.args.steps.now c.args.made.now c.args.from c.requires.steps c.requires.lead c.requires.begins

pub loop-place-preserved : goal.loop-place-preserved
loop-place-preserved c =
    let one : suc c.loop-place.place ≡ c.loop-place.place + 1 = omega arith in
    subst (λ k. Going c.args.steps.now c.push.new.self c.args.made.now k c.len-last.result) one
    (going_on c.args.steps.now c.args.made.now c.loop-place.steps c.push.new.self c.loop-place.place c.len-last.result (record { before = c.loop-place.last; choice = c.choice_at-choice.result }) c.loop-place.invariant c.choice_at-choice.ensures
    c.in_ok-push.ensures.ok c.len-last.ensures)

-- no memory for a step
pub returns-in_err-push-clause-well : goal.returns-in_err-push-clause-well
returns-in_err-push-clause-well c = subst AreSteps (sym c.in_err-push.ensures.err) c.loop-place.invariant.well

pub returns-in_err-push-clause-keeps : goal.returns-in_err-push-clause-keeps
returns-in_err-push-clause-keeps c = subst (KeepsLists c.args.steps.now) (sym c.in_err-push.ensures.err) c.loop-place.invariant.keeps

pub returns-clause-well : goal.returns-clause-well
returns-clause-well c = c.loop-place.invariant.well

pub returns-clause-keeps : goal.returns-clause-keeps
returns-clause-keeps c = c.loop-place.invariant.keeps

pub returns-clause-lead : goal.returns-clause-lead
returns-clause-lead c =
    let low : c.args.from.len ≤ length c.args.made.now = from_within c.args.steps.now c.args.made.now c.args.from c.requires.lead c.requires.begins in
    let all : c.loop-place.place ≡ length c.args.made.now = omega (arith, low, c.loop-place.auto.place-end) in
    going_leads c.args.steps.now c.args.made.now c.loop-place.steps c.loop-place.place c.loop-place.last c.loop-place.invariant all

pub returns-clause-whole : goal.returns-clause-whole
returns-clause-whole c =
    let low : c.args.from.len ≤ length c.args.made.now = from_within c.args.steps.now c.args.made.now c.args.from c.requires.lead c.requires.begins in
    let all : c.loop-place.place ≡ length c.args.made.now = omega (arith, low, c.loop-place.auto.place-end) in
    going_ends c.args.steps.now c.args.made.now c.loop-place.steps c.loop-place.place c.loop-place.last c.loop-place.invariant all
