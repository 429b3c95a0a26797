use Rattle.std.proofs.Common.{◌≡◌, ◌<◌, length, Some, subst, sym, arith}
use Rattle.std.specs.Prelude.{slice_get}
use Rattle.loom_engine.specs.declared.rt.path.node.Node.TheVariants as node
use Rattle.loom_engine.specs.Path.Nodes.{seen}
use Rattle.loom_engine.specs.Path.Route.{Route}
use Rattle.loom_engine.specs.Path.Tallies.{passes_to}
use Rattle.loom_engine.proofs.Nodes.Notes.{passes_length, stored_node, node_within, tally_within, tally_on}
use Rattle.loom_engine.proofs.rt.path.Path.pass.Goals as goal

pub pass-requires-clause-counted : goal.pass-requires-clause-counted
pass-requires-clause-counted c =
    let p = c.self.inside in
    let here : slice_get p.nodes.list p.nodes.position ≡ Some (node.Schedule c.args.schedule.now) =
    subst (λ (r : Route). slice_get r.nodes r.position ≡ Some (node.Schedule c.args.schedule.now)) (sym c.self.view_is) c.requires.stands in
    omega (arith, tally_within p.nodes.list p.nodes.position p.tally c.self.invariant.0 c.self.invariant.4, node_within p.nodes.list p.nodes.position (node.Schedule c.args.schedule.now) here, c.self.invariant.1)

pub invariant_of-self : goal.invariant_of-self
invariant_of-self c =
    let p = c.self.inside in
    let nodes = p.nodes.list in
    let n = node.Schedule c.args.schedule.now in
    let here : slice_get nodes p.nodes.position ≡ Some n =
    subst (λ (r : Route). slice_get r.nodes r.position ≡ Some n) (sym c.self.view_is) c.requires.stands in
    let within : p.nodes.position < length nodes = node_within nodes p.nodes.position n here in (
      omega arith,
      c.self.invariant.1,
      c.self.invariant.2,
      c.self.invariant.3,
      tally_on nodes p.nodes.position (seen n) _ (stored_node nodes p.nodes.position n here)
          (c.pass.ensures (passes_to p.nodes.position nodes) (passes_length p.nodes.position nodes c.self.invariant.0) c.self.invariant.4),
    )
