use Rattle.std.proofs.Common.{List, ◌++◌, map, drop}
use Rattle.loom_objects.specs.declared.choice.Choice.{Choice}
use Rattle.loom_engine.specs.Walk.Machine.{Machine}
use Rattle.loom_engine.specs.Walk.Path.{Stored}
use Rattle.loom_engine.specs.Covering.Spread.{Spread}
use Rattle.loom_engine.specs.Parts.Cuts.{Part, IsBelow}
use Rattle.loom_engine.specs.Parts.Works.{Work}
use Rattle.loom_engine.specs.Parts.Openings.{chosen_to, key_at, EachOpening}
use Rattle.loom_engine.specs.Parts.Keeping.{views, keys, AddsParts, Stands}
use Rattle.loom_engine.proofs.rt.parts.Parts.hand_out_each.Given as goal

-- what is left of the openings is noted
abbrev pub invariant-loop-opening : goal.invariant-loop-opening
invariant-loop-opening l = record {
  hands : (m : Machine) (made : List (List Choice)) (out spent : List Part) (source : Part) → Work m made (out ++ views l.fn.self.list.items) spent (keys l.fn.self.trunk.items) (map (key_at l.path.nodes) l.openings)
      → Stands out spent l.path.nodes source → EachOpening (λ opening. IsBelow (chosen_to opening.place l.path.nodes) source.base) l.openings
      → Work m made (out ++ views l.self.list.items) spent (keys l.self.trunk.items) (map (key_at l.path.nodes) (drop l.opening-index l.openings));
  spreads : (m : Machine) (left : List (List Stored)) (out spent : List Part) (source : Part) → Spread m left (out ++ views l.fn.self.list.items) spent (keys l.fn.self.trunk.items) (map (key_at l.path.nodes) l.openings)
      → Stands out spent l.path.nodes source → EachOpening (λ opening. IsBelow (chosen_to opening.place l.path.nodes) source.base) l.openings
      → Spread m left (out ++ views l.self.list.items) spent (keys l.self.trunk.items) (map (key_at l.path.nodes) (drop l.opening-index l.openings));
  adds : AddsParts l.fn.self l.self;
}
