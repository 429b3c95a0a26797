use Rattle.std.proofs.Common.{◌∙◌, ◌<◌, ◌^◌, ℕ, ap, arith, subst, sym}
use Rattle.loom_views.specs.Lanes.{counts_in}
use Rattle.loom_views.specs.Versions.{IsCounted}
use Rattle.loom_views.proofs.Views.Lanes.{counts_of}
use Rattle.loom_views.proofs.rt.vv.VersionVec.of.Goals as goal

pub invariant_of-result : goal.invariant_of-result
invariant_of-result c =
    let a = c.args in
    let e = counts_of a.zeroth a.first a.second a.third a.fourth (omega arith) (omega arith) (omega arith) (omega arith) (omega arith) in
    subst (λ (w : ℕ). IsCounted (counts_in w) × (w < 2 ^ 80)) (sym c.of.ensures) (subst IsCounted (sym e) c.requires.counted, omega arith)

pub returns : goal.returns
returns c =
    let a = c.args in
    ap counts_in c.of.ensures ∙ counts_of a.zeroth a.first a.second a.third a.fourth (omega arith) (omega arith) (omega arith) (omega arith) (omega arith)
