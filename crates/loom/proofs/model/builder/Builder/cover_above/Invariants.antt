use Rattle.std.proofs.Common.{◌≡◌, ◌⊎◌, ◌<◌, ◌+◌, ◌-◌}
use Rattle.loom_engine.specs.Path.Route.{stored}
use Rattle.loom.proofs.ModelLemmas.CoverParts.{IsUnderWay}
use Rattle.loom.proofs.model.builder.Builder.cover_above.Given as goal

-- runs were begun, fewer than the slice has, and the visitor was given those that ended
abbrev pub invariant-slice : goal.invariant-slice
invariant-slice g l = record {
  way : IsUnderWay l.self g.B.Body.next l.body g.V.Visitor.takes l.fn.visitor l.floor (stored l.fn.path.nodes) l.known l.fn.states l.path l.visitor l.runs l.met l.states;
  within : (l.runs + l.met ≡ 0) ⊎ (l.runs + l.met < l.slice.runs);
}

abbrev pub decreases-slice : goal.decreases-slice
decreases-slice g l = l.slice.runs - (l.runs + l.met)
