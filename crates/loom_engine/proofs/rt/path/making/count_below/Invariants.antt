use Rattle.std.proofs.Common.{◌≡◌, ◌≤◌, length, min, take}
use Rattle.loom_objects.specs.Tree.Stores.{slots}
use Rattle.loom_engine.proofs.rt.path.making.count_below.Given as goal

-- those of the first places that are below the slot are counted
abbrev pub invariant-slots : goal.invariant-slots
invariant-slots l = record {
  counted : l.count ≡ length (slots (take (min l.place l.slot) l.readable));
  few : l.count ≤ l.place;
}
