use Rattle.std.proofs.Common.{◌≡◌, map, take}
use Rattle.serde_json.specs.View.{view}
use Rattle.loom_engine.specs.Path.Route.{settings}
use Rattle.loom_engine.specs.Parts.Texts.Accepted.{AreTrueParts}
use Rattle.loom_engine.specs.Parts.Texts.Grammar.{item_data}
use Rattle.loom_engine.proofs.rt.parts.read.read_items.Given as goal

abbrev pub invariant-loop-item : goal.invariant-loop-item
invariant-loop-item l =
    (map view (take l.item-index l.items.items) ≡ map item_data l.list.items) × AreTrueParts (settings l.search) l.search.explores l.list.items
