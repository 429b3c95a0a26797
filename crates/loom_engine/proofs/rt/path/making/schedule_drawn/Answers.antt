use Rattle.std.proofs.Common.{◌≡◌, List, Some, true, ap, sym, ◌∙◌, subst}
use Rattle.loom_objects.specs.declared.rt.schedule.Offers.{Offers}
use Rattle.loom_engine.specs.Path.Nodes.{seen_threads, with_status}
use Rattle.loom_engine.specs.declared.rt.path.node.Status.{Status}
use Rattle.loom_engine.specs.declared.rt.path.node.Status.TheVariants.{Active, Visited}
use Rattle.loom_engine.specs.Walk.Path.{IsAtRest}
use Rattle.loom_engine.proofs.Path.Nodes.Drawing.{drawn_made, drawn_statuses, offered_within}
use Rattle.loom_engine.proofs.rt.path.making.schedule_drawn.Goals as goal

pub returns-clause-made : goal.returns-clause-made
returns-clause-made c = λ places.
    let offers : Offers = c.args.offers.now in
    let is : c.drawn_statuses.result ≡ drawn_statuses c.args.every offers c.able_or_default-chosen.result =
    c.drawn_statuses.ensures ∙ ap (λ (l : List Status). with_status c.able_or_default-chosen.result Active (with_status offers.default Visited l)) c.made_statuses-made.ensures.made in
    ap (λ (l : List Status). Some (seen_threads offers.default c.args.exploring l)) is
    ∙ (drawn_made c.args.exploring c.args.every offers c.requires c.made_statuses-made.ensures.size c.able_or_default-chosen.result c.able_or_default-chosen.ensures).0

pub returns-clause-rests : goal.returns-clause-rests
returns-clause-rests c =
    let offers : Offers = c.args.offers.now in
    let is : c.drawn_statuses.result ≡ drawn_statuses c.args.every offers c.able_or_default-chosen.result =
    c.drawn_statuses.ensures ∙ ap (λ (l : List Status). with_status c.able_or_default-chosen.result Active (with_status offers.default Visited l)) c.made_statuses-made.ensures.made in
    subst (λ (l : List Status). IsAtRest (seen_threads offers.default true l)) (sym is)
    (drawn_made c.args.exploring c.args.every offers c.requires c.made_statuses-made.ensures.size c.able_or_default-chosen.result c.able_or_default-chosen.ensures).1

pub returns-clause-within : goal.returns-clause-within
returns-clause-within c = offered_within c.args.offers.now c.requires c.made_statuses-made.ensures.size c.able_or_default-chosen.result c.able_or_default-chosen.ensures
