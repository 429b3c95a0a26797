use Rattle.std.proofs.Common.{◌≡◌, ◌++◌, length, take, ap, sym, ◌∙◌, subst}
use Rattle.loom_engine.specs.Covering.Trails.{AreMoved, lists_of, moved_leads}
use Rattle.loom_engine.proofs.Covering.Trails.{lists_appended, moved_all, trails_kept}
use Rattle.loom_engine.proofs.rt.states.trails.Trails.append.Goals as goal

-- no memory for the steps
pub invariant_of-self : goal.invariant_of-self
invariant_of-self c = trails_kept c.self.inside.steps c.self.inside.leads c.self.invariant c.graft.new.steps c.graft.ensures.keeps c.graft.ensures.well

pub put_leads-requires-clause-well : goal.put_leads-requires-clause-well
put_leads-requires-clause-well c = trails_kept c.self.inside.steps c.self.inside.leads c.self.invariant c.graft.new.steps c.graft.ensures.keeps c.graft.ensures.well

pub put_leads-requires-clause-moved : goal.put_leads-requires-clause-moved
put_leads-requires-clause-moved c =
    subst (λ n. AreMoved c.graft.new.steps n c.other.inside.leads) (sym c.len-offset.ensures)
    (moved_all c.self.inside.steps c.other.inside.steps c.graft.new.steps c.in_ok-graft.ensures.grafted c.other.inside.leads c.other.invariant)

pub invariant_of-self-2 : goal.invariant_of-self-2
invariant_of-self-2 c = c.put_leads.ensures.well

pub returns : goal.returns
returns c =
    let old = c.self.inside.steps in
    let new = c.graft.new.steps in
    let leads = c.self.inside.leads in
    let others = c.other.inside.leads in
    let added = c.put_leads.new.leads in
    let puts : lists_of new added ≡ lists_of new leads ++ take c.args.count (lists_of new (moved_leads (length old) others)) =
    subst (λ n. lists_of new added ≡ lists_of new leads ++ take c.args.count (lists_of new (moved_leads n others))) c.len-offset.ensures c.in_ok-put_leads.ensures.puts in
    lists_appended old c.other.inside.steps new c.in_ok-graft.ensures.grafted leads others added c.args.count c.self.invariant c.other.invariant c.graft.ensures.keeps puts
    ∙ ap (λ cs. cs ++ take c.args.count (lists_of c.other.inside.steps others)) c.self.view_is ∙ ap (λ cs. c.args.self.now ++ take c.args.count cs) c.other.view_is
