use Rattle.std.proofs.Common.{◌≡◌, ◌<◌, ℕ, ◌∷◌, [], map, Some, sym, ap, ◌∙◌, subst, arith}
use Rattle.loom_objects.specs.declared.rt.schedule.Offers.{Offers}
use Rattle.loom_objects.specs.Scene.Stage.{Stage}
use Rattle.loom_objects.specs.Tree.Sound.{AreSoundOffers}
use Rattle.loom_objects.specs.Schedule.Offers.{standing_at}
use Rattle.loom_objects.proofs.Scene.Offering.{made, offered_now, offers_sound}
use Rattle.loom_objects.proofs.rt.scene.Scene.offers.Goals as goal

pub returns-in-Runnable-clause-offers : goal.returns-in-Runnable-clause-offers
returns-in-Runnable-clause-offers g c = λ points left.
    let s = c.args.self.now in
    let few : s.active < 5 = subst (λ (z : Stage g.row.D.Denot). z.active < 5) c.self.view_is (omega (arith, c.self.invariant.0, c.self.invariant.1, c.self.invariant.2)) in
    let is : c.self.inside.active ≡ s.active = ap (λ (z : Stage g.row.D.Denot). z.active) c.self.view_is in
    ap (λ (a : ℕ). made (Some a) c.abilities.result) is
    ∙ offered_now s.yields s.threads s.active c.active_thread.result.now c.abilities.result few c.active_thread.ensures c.in-Runnable.is (c.abilities.ensures s.yields)

pub returns-in-Runnable-clause-sound : goal.returns-in-Runnable-clause-sound
returns-in-Runnable-clause-sound g c =
    let s = c.args.self.now in
    let few : s.active < 5 = subst (λ (z : Stage g.row.D.Denot). z.active < 5) c.self.view_is (omega (arith, c.self.invariant.0, c.self.invariant.1, c.self.invariant.2)) in
    let is : c.self.inside.active ≡ s.active = ap (λ (z : Stage g.row.D.Denot). z.active) c.self.view_is in
    let offered = ap (λ (a : ℕ). made (Some a) c.abilities.result) is
    ∙ offered_now s.yields s.threads s.active c.active_thread.result.now c.abilities.result few c.active_thread.ensures c.in-Runnable.is (c.abilities.ensures s.yields) in
    subst (λ (o : Offers). AreSoundOffers o.default o.abilities) (sym offered) (offers_sound s.active (map (standing_at s.yields s.threads) (0 ∷ 1 ∷ 2 ∷ 3 ∷ 4 ∷ [])))
