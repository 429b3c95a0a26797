use Rattle.std.proofs.Common.{◌<◌, length, subst, sym, arith}
use Rattle.loom_engine.specs.Path.Route.{Route}
use Rattle.loom_engine.specs.Path.Tallies.{IsValueAt}
use Rattle.loom_engine.proofs.Nodes.Notes.{value_within, tally_value}
use Rattle.loom_engine.proofs.rt.path.Path.pass_value.Goals as goal

pub invariant_of-self : goal.invariant_of-self
invariant_of-self c =
    let p = c.self.inside in
    let nodes = p.nodes.list in
    let value : IsValueAt nodes p.nodes.position = subst (λ (r : Route). IsValueAt r.nodes r.position) (sym c.self.view_is) c.requires in
    let within : p.nodes.position < length nodes = value_within nodes p.nodes.position value in (
      omega arith,
      c.self.invariant.1,
      c.self.invariant.2,
      c.self.invariant.3,
      tally_value nodes p.nodes.position p.tally c.self.invariant.0 value c.self.invariant.4,
    )
