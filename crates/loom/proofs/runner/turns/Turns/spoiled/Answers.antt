use Rattle.std.proofs.Common.{◌≡◌, None, subst}
use Rattle.loom.specs.Runner.Drawn.{LeadsBy}
use Rattle.loom.specs.Runner.Histories.{Log}
use Rattle.loom.proofs.RunnerLemmas.Leading.{kept_leads}
use Rattle.loom.proofs.runner.turns.Turns.spoiled.Goals as goal

pub returns-clause-leads : goal.returns-clause-leads
returns-clause-leads g c =
    let P : Log _ → Type 0 = λ l. (l.spoiled ≡ None → LeadsBy l.drawn l) in
    subst P c.self.view_is (kept_leads _ c.self.inside.place.drawn c.self.invariant)
