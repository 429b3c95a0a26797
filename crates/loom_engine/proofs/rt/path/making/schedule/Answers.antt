use Rattle.std.proofs.Common.{◌≡◌, [], true, ap, sym, ◌∙◌, subst, map}
use Rattle.loom_engine.specs.Walk.Path.{IsAtRest}
use Rattle.loom_engine.specs.declared.rt.path.node.Status.TheVariants.{Active}
use Rattle.loom_engine.specs.Path.Nodes.{made_status, with_status, seen_threads}
use Rattle.loom_engine.proofs.Path.Nodes.Making.{made_is, fresh_rests}
use Rattle.loom_engine.proofs.rt.path.making.schedule.Goals as goal

pub returns-clause-made : goal.returns-clause-made
returns-clause-made c = λ places.
    let statuses : c.with_status.result ≡ with_status c.args.offers.now.default Active (map (made_status c.args.every) c.args.offers.now.abilities) = cc in
    ap (seen_threads _ _) statuses ∙ made_is c.args.every c.args.exploring c.args.offers.now places c.requires

pub returns-clause-rests : goal.returns-clause-rests
returns-clause-rests c =
    let statuses : c.with_status.result ≡ with_status c.args.offers.now.default Active (map (made_status c.args.every) c.args.offers.now.abilities) = cc in
    subst IsAtRest (sym (ap (seen_threads _ true) statuses ∙ made_is c.args.every true c.args.offers.now [] c.requires))
    (fresh_rests c.args.every c.args.offers.now c.requires c.made_statuses.ensures.size)
