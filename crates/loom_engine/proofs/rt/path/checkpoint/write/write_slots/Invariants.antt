use Rattle.std.proofs.Common.{◌≡◌, ◌++◌, map, drop}
use Rattle.serde_json.specs.View.{view}
use Rattle.loom_objects.specs.Tree.Stores.{slots_from, slots}
use Rattle.loom_engine.specs.Checkpoint.Grammar.{whole}
use Rattle.loom_engine.proofs.rt.path.checkpoint.write.write_slots.Given as goal

abbrev pub invariant-loop-slot : goal.invariant-loop-slot
invariant-loop-slot l = map view l.items.items ++ map whole (slots_from l.slot (drop l.slot l.readable)) ≡ map whole (slots l.readable)
