use Rattle.std.proofs.Common.{◌∙◌, ap, arith, length-take-le, refl, sym}
use Rattle.loom_objects.specs.Operation.Bare.{bare_request}
use Rattle.loom.specs.declared.runner.history.event.Event.{Event}
use Rattle.loom.proofs.Closures.Comparing.{change_at}
use Rattle.loom.proofs.runner.last_run.make_change.Goals as goal

pub returns : goal.returns
returns g c =
    change_at c.args.run c.args.place c.args.old.now c.args.events.now c.index-old-place.result c.index-events-place.result _ c.requires.old c.requires.events c.index-old-place.is c.index-events-place.is refl refl
    (c.bare_request-before.ensures ∙ ap (λ (x : Event _). bare_request x.op) (sym c.index-old-place.is)) c.bare_request-now.ensures

pub slice_bounds-told_events-end : goal.slice_bounds-told_events-end
slice_bounds-told_events-end g c = sym (length-take-le c.args.place c.args.events.now (omega (arith, c.requires.events)))
