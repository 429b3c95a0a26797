use Rattle.std.proofs.Common.{take}
use Rattle.loom_engine.proofs.Parts.Keeping.{NoneIs}
use Rattle.loom_engine.proofs.rt.parts.Parts.is_issued.Given as goal

abbrev pub invariant-loop-place : goal.invariant-loop-place
invariant-loop-place l = NoneIs l.key (take l.place l.self.trunk.items)
