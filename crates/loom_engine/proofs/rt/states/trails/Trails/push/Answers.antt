use Rattle.std.proofs.Common.{◌≡◌, [], ◌∷◌, ◌++◌, ap, sym, ◌∙◌, subst}
use Rattle.loom_engine.specs.Covering.Trails.{AreTrails, IsLead, IsOneOrNone, lists_of}
use Rattle.loom_engine.proofs.Covering.Trails.{lead_of, lists_kept, lists_more, on_err, trails_kept, trails_more}
use Rattle.loom_engine.proofs.rt.states.trails.Trails.push.Goals as goal

pub shared-from-requires-clause-lead : goal.shared-from-requires-clause-lead
shared-from-requires-clause-lead c =
    lead_of c.self.inside.steps c.self.inside.leads c.self.invariant c.last_lead-before.result (subst (λ l. IsOneOrNone l c.last_lead-before.result) c.as_slice.ensures c.last_lead-before.ensures)

-- no memory for the steps
pub invariant_of-self : goal.invariant_of-self
invariant_of-self c = trails_kept c.self.inside.steps c.self.inside.leads c.self.invariant c.walk_on.new.steps c.walk_on.ensures.keeps c.walk_on.ensures.well

pub returns-in_err-lead-clause-err : goal.returns-in_err-lead-clause-err
returns-in_err-lead-clause-err c = on_err c.from_residual.result _ (lists_kept c.self.inside.steps c.walk_on.new.steps c.self.inside.leads c.self.invariant c.walk_on.ensures.keeps ∙ c.self.view_is)

-- no memory for where they lead
pub invariant_of-self-in_err-push : goal.invariant_of-self-in_err-push
invariant_of-self-in_err-push c =
    subst (λ l. AreTrails c.walk_on.new.steps l) (sym c.in_err-push.ensures.err) (trails_kept c.self.inside.steps c.self.inside.leads c.self.invariant c.walk_on.new.steps c.walk_on.ensures.keeps c.walk_on.ensures.well)

pub returns-in_err-push-clause-err : goal.returns-in_err-push-clause-err
returns-in_err-push-clause-err c =
    on_err c.from_residual-in_err-push.result _
    (ap (lists_of c.walk_on.new.steps) c.in_err-push.ensures.err ∙ lists_kept c.self.inside.steps c.walk_on.new.steps c.self.inside.leads c.self.invariant c.walk_on.ensures.keeps ∙ c.self.view_is)

-- one list more
pub invariant_of-self-2 : goal.invariant_of-self-2
invariant_of-self-2 c =
    subst (λ l. AreTrails c.walk_on.new.steps l) (sym c.in_ok-push.ensures.ok)
    (trails_more c.walk_on.new.steps c.self.inside.leads (trails_kept c.self.inside.steps c.self.inside.leads c.self.invariant c.walk_on.new.steps c.walk_on.ensures.keeps c.walk_on.ensures.well) c.in_ok-lead.lead c.in_ok-lead.ensures.lead)

pub returns-clause-ok : goal.returns-clause-ok
returns-clause-ok c =
    ap (lists_of c.walk_on.new.steps) c.in_ok-push.ensures.ok
    ∙ lists_more c.self.inside.steps c.walk_on.new.steps c.self.inside.leads c.in_ok-lead.lead c.args.made.now c.self.invariant c.walk_on.ensures.keeps c.in_ok-lead.ensures.whole ∙ ap (λ l. l ++ c.args.made.now ∷ []) c.self.view_is
