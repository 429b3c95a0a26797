use Rattle.std.proofs.Common.{◌≡◌, true, subst, ap, sym, ◌∙◌}
use Rattle.std.specs.Prelude.{slice_set}
use Rattle.loom_engine.specs.Walk.Path.{IsAtRest}
use Rattle.loom_engine.specs.declared.rt.path.node.Status.TheVariants.{Active, Visited}
use Rattle.loom_engine.specs.Path.Nodes.{active_thread, with_status, seen_threads}
use Rattle.loom_engine.proofs.Nodes.Nodes.Statuses.{some_left}
use Rattle.loom_engine.proofs.Nodes.Nodes.Choosing.{chosen_is, chosen_rests}
use Rattle.loom_engine.proofs.rt.path.node.Schedule.choose.Goals as goal

pub returns-clause-chosen : goal.returns-clause-chosen
returns-clause-chosen c =
    let n = c.args.self.now in
    let active : c.active.result ≡ active_thread n.statuses = cc c.active.ensures.present in
    let left = some_left n.statuses c.args.thread c.requires.left in
    ap (λ l. seen_threads n.first n.exploring (slice_set l c.args.thread Active)) (c.with_status-self.ensures ∙ ap (λ o. with_status o Visited n.statuses) active)
    ∙ chosen_is n.first n.exploring n.statuses c.args.thread left.0 c.requires.rests left.1 left.2

pub returns-clause-rests : goal.returns-clause-rests
returns-clause-rests c =
    let n = c.args.self.now in
    let left = some_left n.statuses c.args.thread c.requires.left in
    let active : c.active.result ≡ active_thread n.statuses = cc c.active.ensures.present in
    subst IsAtRest (sym (
    ap (λ l. seen_threads n.first true (slice_set l c.args.thread Active)) (c.with_status-self.ensures ∙ ap (λ o. with_status o Visited n.statuses) active)
    ∙ chosen_is n.first true n.statuses c.args.thread left.0 c.requires.rests left.1 left.2
    )) (chosen_rests n.first n.statuses c.args.thread left.0 c.requires.rests left.1 left.2)
