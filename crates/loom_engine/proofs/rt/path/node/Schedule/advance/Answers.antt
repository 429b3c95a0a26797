use Rattle.std.proofs.Common.{Some, refl, ap, sym, ◌∙◌, rules}
use Rattle.loom_engine.specs.declared.rt.path.node.Status.TheVariants.{Pending}
use Rattle.loom_engine.proofs.Nodes.Nodes.Statuses.{left_some}
use Rattle.loom_engine.proofs.Nodes.Nodes.Choosing.{pending_there, goes_on, ends_here}
use Rattle.loom_engine.proofs.rt.path.node.Schedule.advance.Goals as goal

pub choose-requires-clause-left : goal.choose-requires-clause-left
choose-requires-clause-left c = left_some c.args.self.now.statuses c.in-Some.thread Pending (pending_there c.args.self.now.statuses c.in-Some.thread (sym c.in-Some.ensures.lowest)) refl

pub returns-in-Some-clause-advances : goal.returns-in-Some-clause-advances
returns-in-Some-clause-advances c =
    let n = c.args.self.now in
    goes_on n.first n.exploring n.statuses c.in-Some.thread c.requires (search rules) (sym c.in-Some.ensures.lowest) ∙ ap Some (sym c.choose.ensures.chosen)

pub returns-in-None-clause-advances : goal.returns-in-None-clause-advances
returns-in-None-clause-advances c =
    let n = c.args.self.now in
    (ends_here n.first n.exploring n.statuses (sym c.in-None.ensures.lowest), refl)
