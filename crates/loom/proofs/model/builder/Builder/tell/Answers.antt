use Rattle.std.proofs.Common.{◌∙◌, ap, refl, subst, sym}
use Rattle.loom_objects.specs.Exploring.{initially}
use Rattle.loom_engine.specs.Path.Route.{Route}
use Rattle.loom.specs.Explain.Explains.{IsToldAlong}
use Rattle.loom.proofs.model.builder.Builder.tell.Goals as goal

pub tell-told-requires-clause-starts : goal.tell-told-requires-clause-starts
tell-told-requires-clause-starts g c =
    let is = c.in_ok-path.ensures in
    (ap (λ (p : Route). p.position) is, refl, ap (λ (p : Route). p.exploring) is ∙ ap initially (sym (ap (λ (p : Route). p.explores) is)))

pub returns : goal.returns
returns g c =
    let told = rw (c.limits-limits.ensures.threads, c.limits-limits.ensures.steps) at c.in_ok-told.ensures.told in
    subst (λ (p : Route). IsToldAlong g.B.Body.next c.args.self.now c.args.body.now p c.in_ok-told.field-0 c.tell-told.new.path) c.in_ok-path.ensures told
