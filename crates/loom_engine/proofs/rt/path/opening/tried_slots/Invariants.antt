use Rattle.std.proofs.Common.{◌≡◌, take}
use Rattle.loom_objects.specs.Tree.Stores.{slots}
use Rattle.loom_engine.proofs.Parts.Tried.{loads}
use Rattle.loom_engine.proofs.rt.path.opening.tried_slots.Given as goal

abbrev pub invariant-loop-place : goal.invariant-loop-place
invariant-loop-place l = l.list.items ≡ loads (take l.place (slots l.load.readable))
