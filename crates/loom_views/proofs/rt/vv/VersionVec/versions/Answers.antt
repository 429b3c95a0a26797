use Rattle.std.proofs.Common.{◌≡◌, [], ◌∷◌, sym, subst}
use Rattle.loom_views.specs.Lanes.{counts_in}
use Rattle.loom_views.specs.Versions.{IsCounted}
use Rattle.loom_views.proofs.rt.vv.VersionVec.versions.Goals as goal

pub returns-clause-counted : goal.returns-clause-counted
returns-clause-counted c =
    let e : counts_in c.self.inside.word ≡ c.get.result ∷ c.get-2.result ∷ c.get-3.result ∷ c.get-4.result ∷ c.get-5.result ∷ [] =
    λ i. sym c.get.ensures i ∷ sym c.get-2.ensures i ∷ sym c.get-3.ensures i ∷ sym c.get-4.ensures i ∷ sym c.get-5.ensures i ∷ [] in
    subst IsCounted e c.self.invariant.0
