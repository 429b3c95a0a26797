use Rattle.std.proofs.Common.{◌≡◌, ◌-◌, suc, subst, arith, refl, false}
use Rattle.loom_engine.proofs.Covering.Between.{Spread, at_place, spread_ends, spread_sets, spread_stays}
use Rattle.loom_engine.proofs.rt.states.ways.spread.Goals as goal

pub loop-left-preserved-then-set_by : goal.loop-left-preserved-then-set_by
loop-left-preserved-then-set_by c =
    let ways = c.args.ways.now in
    let left = c.loop-left.left - 1 in
    let z = c.loop-left.invariant in
    let one : c.loop-left.left ≡ suc left = omega arith in
    spread_sets ways c.args.set.now c.loop-left.set c.set_by.new.set left c.loop-left.changed _ (at_place ways left _ (omega (arith, z.inside))) (subst (λ k. Spread ways c.args.set.now c.loop-left.set k c.loop-left.changed) one z) (c.if-set_by.ensures.sets refl)

pub loop-left-preserved : goal.loop-left-preserved
loop-left-preserved c =
    let ways = c.args.ways.now in
    let left = c.loop-left.left - 1 in
    let z = c.loop-left.invariant in
    let one : c.loop-left.left ≡ suc left = omega arith in
    spread_stays ways c.args.set.now c.loop-left.set c.set_by.new.set left c.loop-left.changed _ (at_place ways left _ (omega (arith, z.inside))) (subst (λ k. Spread ways c.args.set.now c.loop-left.set k c.loop-left.changed) one z) (c.if-set_by.ensures.stays refl) (c.if-set_by.ensures.closed refl)

pub returns-clause-closed : goal.returns-clause-closed
returns-clause-closed c = λ e.
    let none : c.loop-left.left ≡ 0 = omega arith in
    spread_ends c.args.ways.now c.args.set.now c.loop-left.set
    (subst (λ k. Spread c.args.ways.now c.args.set.now c.loop-left.set k false) none (subst (λ b. Spread c.args.ways.now c.args.set.now c.loop-left.set c.loop-left.left b) e c.loop-left.invariant))
