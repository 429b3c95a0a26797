use Rattle.std.proofs.Common.{◌≡◌, drop, slice_index}
use Rattle.loom_objects.specs.Tree.Stores.{slots_from, slots}
use Rattle.loom_engine.proofs.rt.path.node.slot_at.Given as goal

-- the slot is among those that are left
abbrev pub invariant-loop-slot : goal.invariant-loop-slot
invariant-loop-slot l = slice_index (slots_from l.slot (drop l.slot l.readable)) l.left ≡ slice_index (slots l.readable) l.place
