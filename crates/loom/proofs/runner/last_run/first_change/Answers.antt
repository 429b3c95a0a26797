use Rattle.std.proofs.Common.{arith, below_more}
use Rattle.loom.specs.declared.runner.history.event.Event.{Event}
use Rattle.loom.specs.Runner.Alike.{AreMet, IsSame, trace}
use Rattle.loom.proofs.Closures.Comparing.{all_alike, differ_at, like_at}
use Rattle.loom.proofs.runner.last_run.first_change.Goals as goal

pub returns-then-is_other : goal.returns-then-is_other
returns-then-is_other g c =
    differ_at c.args.old_choices.now c.args.choices.now c.args.old.now c.args.events.now c.shared_choices-shared.result c.loop-n.n c.index-old-n.result c.index-events-n.result
    (omega (arith, c.loop-n-test.true, c.min-most.ensures)) (omega (arith, c.loop-n-test.true, c.min-most.ensures)) c.index-old-n.is c.index-events-n.is c.shared_choices-shared.ensures
    (c.is_other.ensures.yes c.if-is_other.true) c.loop-n.invariant

pub loop-n-preserved : goal.loop-n-preserved
loop-n-preserved g c =
    below_more (λ k. (d e : Event _) → AreMet (trace c.args.old_choices.now c.args.old.now) (trace c.args.choices.now c.args.events.now) k d e → IsSame d e) c.loop-n.n c.loop-n.invariant
    (like_at c.args.old_choices.now c.args.choices.now c.args.old.now c.args.events.now c.shared_choices-shared.result c.loop-n.n c.index-old-n.result c.index-events-n.result
    (omega (arith, c.loop-n-test.true, c.min-most.ensures)) (omega (arith, c.loop-n-test.true, c.min-most.ensures)) c.index-old-n.is c.index-events-n.is c.shared_choices-shared.ensures
    (c.is_other.ensures.no c.if-is_other.false))

pub returns : goal.returns
returns g c =
    all_alike c.args.old_choices.now c.args.choices.now c.args.old.now c.args.events.now c.min-most.result c.min-most.ensures
    (λ k below. c.loop-n.invariant k (omega (arith, below, c.loop-n-test.false)))
