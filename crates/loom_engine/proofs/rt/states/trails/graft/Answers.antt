use Rattle.std.proofs.Common.{◌≡◌, ◌+◌, suc, length, refl, ap, sym, ◌∙◌, subst, arith}
use Rattle.loom_engine.specs.Covering.Trails.{AreSteps, KeepsLists, moved}
use Rattle.loom_engine.proofs.Covering.Trails.{Grafting, grafting_ends, grafting_on, grafting_starts}
use Rattle.loom_engine.proofs.rt.states.trails.graft.Goals as goal

pub loop-number-init : goal.loop-number-init
loop-number-init c = grafting_starts c.args.steps.now c.args.other.now c.requires.steps

pub loop-number-preserved : goal.loop-number-preserved
loop-number-preserved c =
    let one : suc c.loop-number.number ≡ c.loop-number.number + 1 = omega arith in
    let step = c.at-step.result.now in
    subst (λ k. Grafting c.args.steps.now c.args.other.now k c.push.new.self) one
    (grafting_on c.args.steps.now c.args.other.now c.loop-number.number c.loop-number.steps c.push.new.self step (record { before = c.in_ok-before.before; choice = step.choice }) c.loop-number.invariant c.requires.other c.at-step.ensures
    (c.in_ok-before.ensures ∙ ap (λ n. moved n step.before) c.len-offset.ensures) refl c.in_ok-push.ensures.ok)

-- no memory for a step
pub returns-in_err-push-clause-well : goal.returns-in_err-push-clause-well
returns-in_err-push-clause-well c = subst AreSteps (sym c.in_err-push.ensures.err) c.loop-number.invariant.well

pub returns-in_err-push-clause-keeps : goal.returns-in_err-push-clause-keeps
returns-in_err-push-clause-keeps c = subst (KeepsLists c.args.steps.now) (sym c.in_err-push.ensures.err) c.loop-number.invariant.keeps

pub returns-clause-grafted : goal.returns-clause-grafted
returns-clause-grafted c =
    let all : c.loop-number.number ≡ length c.args.other.now = omega (arith, c.loop-number.auto.number-end, c.len-count.ensures) in
    grafting_ends c.args.steps.now c.args.other.now c.loop-number.number c.loop-number.steps c.loop-number.invariant all
