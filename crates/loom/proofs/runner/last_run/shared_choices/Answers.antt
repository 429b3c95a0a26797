use Rattle.std.proofs.Common.{◌≡◌, ℕ, arith, refl, subst}
use Rattle.loom.specs.Runner.Alike.{Shares}
use Rattle.loom.proofs.Closures.Comparing.{all_shared, no_more, one_more}
use Rattle.loom.proofs.runner.last_run.shared_choices.Goals as goal

pub returns-then-not-is_same_choice : goal.returns-then-not-is_same_choice
returns-then-not-is_same_choice c =
    no_more c.loop-count.count c.args.one.now c.args.other.now _ _ (omega (arith, c.loop-count-test.true, c.min-most.ensures)) (omega (arith, c.loop-count-test.true, c.min-most.ensures))
    (λ same. cc (c.if-not-is_same_choice.ensures.1 same)) c.loop-count.invariant

pub loop-count-preserved : goal.loop-count-preserved
loop-count-preserved c =
    one_more c.loop-count.count c.args.one.now c.args.other.now _ _ (omega (arith, c.loop-count-test.true, c.min-most.ensures)) (omega (arith, c.loop-count-test.true, c.min-most.ensures))
    (c.if-not-is_same_choice.ensures.0 refl) c.loop-count.invariant

pub returns : goal.returns
returns c =
    let all : c.loop-count.count ≡ c.min-most.result = omega (arith, c.loop-count-test.false, c.loop-count.auto.count-end) in
    all_shared c.min-most.result c.args.one.now c.args.other.now c.min-most.ensures (subst (λ (k : ℕ). Shares k c.args.one.now c.args.other.now) all c.loop-count.invariant)
