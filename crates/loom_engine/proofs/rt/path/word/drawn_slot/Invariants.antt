use Rattle.loom_engine.specs.Path.Words.{readable_in}
use Rattle.loom_engine.proofs.Path.Nodes.Below.{IsSought}
use Rattle.loom_engine.proofs.rt.path.word.drawn_slot.Given as goal

-- the slots so far that may be read are counted, and so are those before the choice
abbrev pub invariant-slots : goal.invariant-slots
invariant-slots l = IsSought (readable_in l.word) l.place l.at l.count l.slot
