use Rattle.std.proofs.Common.{◌≡◌, ◌-◌, ◌≤◌, ◌++◌, length, map, take, drop, option_map}
use Rattle.serde_json.specs.View.{view}
use Rattle.loom_engine.specs.Checkpoint.Reader.{marks_of}
use Rattle.loom_engine.proofs.rt.path.checkpoint.read.read_slots.Given as goal

abbrev pub invariant-loop-slot : goal.invariant-loop-slot
invariant-loop-slot l = record {
  seven : length l.readable ≡ 7;
  within : l.place ≤ length l.items.items;
  same : marks_of 7 0 (map view l.items.items) ≡ option_map (λ bs. take l.slot l.readable ++ bs) (marks_of (7 - l.slot) l.slot (map view (drop l.place l.items.items)));
}
