use Rattle.std.proofs.Common.{◌≡◌, map, take}
use Rattle.serde_json.specs.View.{view}
use Rattle.loom_engine.specs.Parts.Texts.Grammar.{key_data}
use Rattle.loom_engine.proofs.rt.parts.write.write_keys.Given as goal

abbrev pub invariant-loop-key : goal.invariant-loop-key
invariant-loop-key l = map view l.items.items ≡ map key_data (take l.key-index l.trunk)
