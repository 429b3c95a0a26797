use Rattle.std.proofs.Common.{◌≡◌, map, take, Some}
use Rattle.serde_json.specs.View.{view}
use Rattle.loom_engine.specs.Checkpoint.Reader.{each}
use Rattle.loom_engine.specs.Parts.Keeping.{choices_of}
use Rattle.loom_engine.specs.Parts.Texts.Reader.{key_at}
use Rattle.loom_engine.proofs.rt.parts.read.read_keys.Given as goal

abbrev pub invariant-loop-item : goal.invariant-loop-item
invariant-loop-item l = each key_at (map view (take l.item-index l.items.items)) ≡ Some (map choices_of l.trunk.items)
