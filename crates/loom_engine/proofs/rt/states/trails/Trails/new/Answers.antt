use Rattle.std.proofs.Common.{[], ap, subst, sym}
use Rattle.loom_engine.specs.Covering.Trails.{AreTrails, lists_of}
use Rattle.loom_engine.proofs.Covering.Trails.{trails_none}
use Rattle.loom_engine.proofs.rt.states.trails.Trails.new.Goals as goal

pub invariant_of-result : goal.invariant_of-result
invariant_of-result c = subst (λ s. AreTrails s c.new-2.result) (sym c.new.ensures) (subst (λ l. AreTrails [] l) (sym c.new-2.ensures) trails_none)

pub returns : goal.returns
returns c = ap (lists_of c.new.result) c.new-2.ensures
