use Rattle.loom_engine.specs.Parts.Openings.{AreLow}
use Rattle.loom_engine.proofs.rt.path.Path.notes.Given as goal

abbrev pub invariant-loop-place : goal.invariant-loop-place
invariant-loop-place l = AreLow l.place l.self.nodes l.list.items
