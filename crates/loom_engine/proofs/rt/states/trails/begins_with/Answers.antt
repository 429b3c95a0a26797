use Rattle.std.proofs.Common.{◌≡◌, true, false, rules, refl, arith}
use Rattle.loom_engine.proofs.Covering.Trails.{walking_ends, walking_on, walking_refused, walking_starts}
use Rattle.loom_engine.proofs.rt.states.trails.begins_with.Goals as goal

pub back-init : goal.back-init
back-init c = walking_starts c.args.steps.now c.args.made.now c.args.lead c.requires.lead

pub returns-then-not-has_at : goal.returns-then-not-has_at
returns-then-not-has_at c =
    let off : c.has_at.result ≡ false = search rules in
    (λ t. absurd (cc t), λ b. absurd (walking_refused c.args.steps.now c.args.made.now c.args.lead c.back.at c.last_of-last.result c.back.invariant c.last_of-last.ensures (λ e. cc (c.has_at.ensures.1 e, off)) b))

pub back-preserved : goal.back-preserved
back-preserved c =
    let on : c.has_at.result ≡ true = search rules in
    walking_on c.args.steps.now c.args.made.now c.args.lead c.back.at c.last_of-last.result c.back.invariant c.last_of-last.ensures (c.has_at.ensures.0 on)

pub back-smaller : goal.back-smaller
back-smaller c = omega (arith, c.last_of-last.ensures.shorter)

pub returns : goal.returns
returns c =
    let none : c.back.at.len ≡ 0 = omega (arith, c.back-test.false) in
    (λ t. walking_ends c.args.steps.now c.args.made.now c.args.lead c.back.at c.back.invariant none, λ b. refl)
