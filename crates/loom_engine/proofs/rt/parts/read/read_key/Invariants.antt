use Rattle.std.proofs.Common.{◌≡◌, map, take, Some}
use Rattle.serde_json.specs.View.{view}
use Rattle.loom_engine.specs.Checkpoint.Reader.{each}
use Rattle.loom_engine.specs.Parts.Texts.Reader.{choice_at}
use Rattle.loom_engine.proofs.rt.parts.read.read_key.Given as goal

abbrev pub invariant-loop-item : goal.invariant-loop-item
invariant-loop-item l = each choice_at (map view (take l.item-index l.item-items)) ≡ Some l.key.items
