use Rattle.std.proofs.Common.{◌≡◌, ◌∙◌, ◌<◌, List, length, length-take-le, set, take, refl, ap, subst, sym, arith}
use Rattle.std.specs.List.{slice_get}
use Rattle.loom_views.proofs.Views.Shelves.{get-taken, set-taken}
use Rattle.loom_views.proofs.rt.views.places.Places.at_mut.Goals as goal

pub returns : goal.returns
returns c =
    let items = c.self.inside.items in
    let count = c.self.inside.count in
    let view : take count items ≡ c.args.self.now = c.self.view_is in
    let within : c.args.place < length (take count items) = subst (λ (l : List _). c.args.place < length l) (sym view) c.requires in
    let below : c.args.place < count = omega (arith, within, length-take-le count items c.self.invariant) in (
      (refl, λ w. set-taken items count c.args.place w below ∙ ap (λ (l : List _). set l c.args.place w) view),
      record { writes_back = tt; value = ap (λ (l : List _). slice_get l c.args.place) (sym view) ∙ get-taken items count c.args.place below ∙ c.at_mut.ensures.value },
    )
