use Rattle.std.proofs.Common.{◌≡◌, ◌++◌, map, take}
use Rattle.loom_engine.specs.Parts.Openings.{at_place}
use Rattle.loom_engine.proofs.rt.path.part.add_openings.Given as goal

abbrev pub invariant-loop-next : goal.invariant-loop-next
invariant-loop-next l = l.list.items ≡ l.fn.list.items ++ map (at_place l.place) (take l.next-index l.next-items)
