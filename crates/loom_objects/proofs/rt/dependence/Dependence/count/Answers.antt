use Rattle.std.proofs.Common.{◌≢◌, ◌≤◌, get_or, refl, sym, ◌∙◌, arith}
use Rattle.std.proofs.lemmas.Bool.{OnTrue_at, true≢false}
use Rattle.loom_objects.proofs.Dependence.Counts.{use-counted, use-counted-full}
use Rattle.loom_objects.proofs.rt.dependence.Dependence.count.Goals as goal

pub returns-then-not-inc : goal.returns-then-not-inc
returns-then-not-inc c = λ o used place z. use-counted-full o c.args.self.now c.args.thread used place c.at.result.now c.requires c.at.ensures z _ (c.inc.ensures.full.0 c.if-not-inc.true)

pub returns : goal.returns
returns c = λ o used place z.
    let counted : get_or c.at.result.now c.args.thread 0 ≤ 65534 = c.inc.ensures.counted in
    let room : get_or c.at.result.now c.args.thread 0 ≢ 65534 = λ f. true≢false (sym c.if-not-inc.false ∙ c.inc.ensures.full.1 f) in
    use-counted o c.args.self.now c.args.thread used place c.at.result.now c.requires c.at.ensures z _ c.inc.new.self (OnTrue_at c.if-not-inc.false c.inc.ensures.raised) (omega arith) refl
