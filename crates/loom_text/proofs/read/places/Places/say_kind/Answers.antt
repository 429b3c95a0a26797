use Rattle.std.proofs.Common.{◌≡◌, List, length, set, true, Some, refl, ap}
use Rattle.std.proofs.lemmas.Option.{slice_get_read}
use Rattle.std.specs.List.{slice_get}
use Rattle.loom_text.proofs.KnownLemmas.{with_kind_as}
use Rattle.loom_text.specs.Heads.{Placed}
use Rattle.loom_text.specs.Known.{Located}
use Rattle.loom_text.proofs.read.places.Places.say_kind.Goals as goal

pub returns : goal.returns
returns c =
    let items = c.args.self.now.locations.items in
    let there : slice_get items c.args.number ≡ Some c.index_mut.result.now = slice_get_read items (length items) c.args.number c.index_mut.result.now refl c.requires c.index_mut.ensures.value in
    let said : List Located → Placed = λ ls. record { locations = ls; typed = set c.args.self.now.typed.items c.args.number true } in
    ap said (with_kind_as items c.args.number c.args.kind c.index_mut.result.now there)
