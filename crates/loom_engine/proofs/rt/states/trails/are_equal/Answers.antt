use Rattle.std.proofs.Common.{◌≡◌, ◌<◌, true, false, rules, refl, arith}
use Rattle.loom_engine.proofs.Covering.Trails.{comparing_ends, comparing_meets, comparing_on, comparing_refused, comparing_starts}
use Rattle.loom_engine.proofs.rt.states.trails.are_equal.Goals as goal

pub back-init : goal.back-init
back-init c = comparing_starts c.args.steps.now c.args.one c.args.other c.requires.one c.requires.other c.requires.same

pub returns-then-at-beside : goal.returns-then-at-beside
returns-then-at-beside c =
    let meets : c.back.at.last ≡ c.back.beside.last = omega arith in
    (λ t. comparing_meets c.args.steps.now c.args.one c.args.other c.back.at c.back.beside c.back.invariant meets, λ e. refl)

pub last_of-other_last-requires-clause-some : goal.last_of-other_last-requires-clause-some
last_of-other_last-requires-clause-some c =
    let same : c.back.at.len ≡ c.back.beside.len = c.back.invariant.same in
    let some : 0 < c.back.at.len = c.back-test.true in
    omega (arith, same, some)

pub returns-then-not-are_alike : goal.returns-then-not-are_alike
returns-then-not-are_alike c =
    let off : c.are_alike.result ≡ false = search rules in (
      λ t. absurd (cc t),
      λ e.
          absurd
          (comparing_refused c.args.steps.now c.args.one c.args.other c.back.at c.back.beside c.back.invariant c.last_of-last.result c.last_of-other_last.result c.last_of-last.ensures c.last_of-other_last.ensures (λ s. cc (c.are_alike.ensures.1 s, off)) e),
    )

pub back-preserved : goal.back-preserved
back-preserved c =
    let on : c.are_alike.result ≡ true = search rules in
    comparing_on c.args.steps.now c.args.one c.args.other c.back.at c.back.beside c.back.invariant c.last_of-last.result c.last_of-other_last.result c.last_of-last.ensures c.last_of-other_last.ensures (c.are_alike.ensures.0 on)

pub back-smaller : goal.back-smaller
back-smaller c = omega (arith, c.last_of-last.ensures.shorter)

pub returns : goal.returns
returns c =
    let none : c.back.at.len ≡ 0 = omega (arith, c.back-test.false) in
    (λ t. comparing_ends c.args.steps.now c.args.one c.args.other c.back.at c.back.beside c.back.invariant none, λ e. refl)
