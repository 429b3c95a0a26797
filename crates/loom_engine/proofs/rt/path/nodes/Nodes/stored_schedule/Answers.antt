use Rattle.std.proofs.Common.{◌≡◌, Some, refl, sym}
use Rattle.std.specs.Prelude.{slice_get}
use Rattle.loom_objects.specs.Tree.Asked.{which_thread}
use Rattle.loom_objects.specs.Tree.Question.{made_of}
use Rattle.loom_engine.specs.declared.rt.path.node.Node.TheVariants as node
use Rattle.loom_engine.proofs.Nodes.Marking.Nearest.{got_node}
use Rattle.loom_engine.proofs.Nodes.Found.{made_otherwise, no_schedule}
use Rattle.loom_engine.proofs.rt.path.nodes.Nodes.stored_schedule.Goals as goal

pub returns-in_default : goal.returns-in_default
returns-in_default c = λ places.
    let nodes = c.args.self.now in
    (c.failed.ensures, no_schedule nodes.list nodes.position c.get.result c.args.exploring c.args.offers.now places (got_node nodes.list nodes.position c.get.result c.get.result c.requires (sym c.get.ensures)) c.in_default.not-Schedule)

pub returns-then-not-meets : goal.returns-then-not-meets
returns-then-not-meets c = λ places.
    let nodes = c.args.self.now in
    let n = node.Schedule c.in-Schedule.schedule in
    let there : slice_get nodes.list nodes.position ≡ Some n = got_node nodes.list nodes.position n n c.requires (sym c.in-Schedule.ensures) in (
      c.failed-then-not-meets.ensures,
      made_otherwise nodes.list nodes.position n (made_of (which_thread c.args.exploring c.args.offers.now places)) there (λ e. let met = (c.if-not-meets.ensures c.in-Schedule.schedule there places).1 e in cc met),
    )

pub returns : goal.returns
returns c = λ places.
    let nodes = c.args.self.now in
    let n = node.Schedule c.in-Schedule.schedule in
    let there : slice_get nodes.list nodes.position ≡ Some n = got_node nodes.list nodes.position n n c.requires (sym c.in-Schedule.ensures) in
    (there, (c.if-not-meets.ensures c.in-Schedule.schedule there places).0 refl)
