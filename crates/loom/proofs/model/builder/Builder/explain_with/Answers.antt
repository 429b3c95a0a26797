use Rattle.std.proofs.Common.{◌∙◌}
use Rattle.loom.proofs.ExplainLemmas.Explaining.{told}
use Rattle.loom.proofs.ExplainLemmas.Placing.{ends_placed, is_placed}
use Rattle.loom.proofs.model.builder.Builder.explain_with.Goals as goal

pub returns-clause-explains : goal.returns-clause-explains
returns-clause-explains g c =
    let b = c.args.self.now in
    let e = c.in_ok-explanation.ensures in
    let made = c.in_ok-explanation.explanation.choices.items in
    let events = c.in_ok-told.told.events.items in
    let z = told b g.B.Body.next c.args.body.now c.args.choices.now made c.in_ok-told.path e.path.0 events c.in_ok-told.told.end c.in_ok-told.ensures in
    record {
      events = e.told.0 ∙ z.events;
      ends = rw e.told.1 (ends_placed b g.B.Body.next c.args.body.now c.args.choices.now made events made c.in_ok-told.told.end z.ends);
      placed = rw (e.told.0, e.told.1) (is_placed events made c.in_ok-told.told.end);
      options = e.path.1 ∙ z.passed;
      limits = e.limits;
    }
