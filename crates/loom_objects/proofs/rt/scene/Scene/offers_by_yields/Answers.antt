use Rattle.std.proofs.Common.{ℕ, sym, ap, ◌∙◌, subst}
use Rattle.loom_objects.specs.declared.rt.schedule.Offers.{Offers}
use Rattle.loom_objects.specs.Tree.Sound.{AreSoundOffers}
use Rattle.loom_objects.specs.Schedule.Offers.{offers_of}
use Rattle.loom_objects.proofs.Scene.Offering.{offered_as, offers_sound}
use Rattle.loom_objects.proofs.rt.scene.Scene.offers_by_yields.Goals as goal

pub returns-clause-offers : goal.returns-clause-offers
returns-clause-offers g c = λ points left.
    offered_as c.active.result c.standings-standings.result c.default_thread-default.result c.abilities.result c.with_able.result c.default_thread-default.ensures c.abilities.ensures c.with_able.ensures
    ∙ ap (λ (active : ℕ). offers_of active c.standings-standings.result) c.active.ensures ∙ ap (offers_of c.args.self.now.active) (c.standings-standings.ensures points left)

pub returns-clause-sound : goal.returns-clause-sound
returns-clause-sound g c =
    subst (λ (o : Offers). AreSoundOffers o.default o.abilities)
    (sym (offered_as c.active.result c.standings-standings.result c.default_thread-default.result c.abilities.result c.with_able.result c.default_thread-default.ensures c.abilities.ensures c.with_able.ensures))
    (offers_sound c.active.result c.standings-standings.result)
