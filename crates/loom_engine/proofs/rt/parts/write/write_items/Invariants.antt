use Rattle.std.proofs.Common.{◌≡◌, map, take}
use Rattle.serde_json.specs.View.{view}
use Rattle.loom_engine.specs.Parts.Texts.Grammar.{item_data}
use Rattle.loom_engine.proofs.rt.parts.write.write_items.Given as goal

abbrev pub invariant-loop-part : goal.invariant-loop-part
invariant-loop-part l = map view l.items.items ≡ map item_data (take l.part-index l.list)
