use Rattle.std.proofs.Common.{◌≡◌, ◌+◌, suc, length, min, ap, sym, ◌∙◌, subst, arith}
use Rattle.loom_engine.specs.declared.rt.states.trails.Lead.{Lead}
use Rattle.loom_engine.specs.Covering.Trails.{AreTrails}
use Rattle.loom_engine.proofs.Covering.Trails.{Putting, putting_ends, putting_on, putting_starts}
use Rattle.loom_engine.proofs.rt.states.trails.put_leads.Goals as goal

pub loop-number-init : goal.loop-number-init
loop-number-init c = putting_starts c.args.steps.now c.args.leads.now c.args.other.now c.args.offset c.requires.well

pub loop-number-preserved : goal.loop-number-preserved
loop-number-preserved c =
    let one : suc c.loop-number.number ≡ c.loop-number.number + 1 = omega arith in
    let lead = c.at-lead.result.now in
    let added : Lead = record { last = c.in_ok-last.last; len = lead.len } in
    subst (λ k. Putting c.args.steps.now c.args.leads.now c.args.other.now c.args.offset k c.push.new.self) one
    (putting_on c.args.steps.now c.args.leads.now c.args.other.now c.args.offset c.loop-number.number c.loop-number.leads c.push.new.self lead added c.loop-number.invariant c.requires.moved c.at-lead.ensures
    (ap (λ n. let l : Lead = record { last = n; len = lead.len } in l) c.in_ok-last.ensures) c.in_ok-push.ensures.ok)

-- no memory for one more
pub returns-in_err-push-clause-well : goal.returns-in_err-push-clause-well
returns-in_err-push-clause-well c = subst (AreTrails c.args.steps.now) (sym c.in_err-push.ensures.err) c.loop-number.invariant.well

pub returns-clause-puts : goal.returns-clause-puts
returns-clause-puts c =
    let all : c.loop-number.number ≡ min c.args.count (length c.args.other.now) = omega (arith, c.loop-number.auto.number-end, c.min-number-end.ensures, c.len-most.ensures) in
    putting_ends c.args.steps.now c.args.leads.now c.args.other.now c.args.offset c.loop-number.number c.args.count c.loop-number.leads c.loop-number.invariant all
