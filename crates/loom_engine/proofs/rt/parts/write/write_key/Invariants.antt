use Rattle.std.proofs.Common.{◌≡◌, map, take}
use Rattle.serde_json.specs.View.{view}
use Rattle.loom_engine.specs.Parts.Texts.Grammar.{choice_data}
use Rattle.loom_engine.proofs.rt.parts.write.write_key.Given as goal

abbrev pub invariant-loop-choice : goal.invariant-loop-choice
invariant-loop-choice l = map view l.items.items ≡ map choice_data (take l.choice-index l.key.items)
