use Rattle.std.proofs.Common.{ap, sym, ◌∙◌, subst}
use Rattle.loom_engine.specs.Path.Route.{Route}
use Rattle.loom_engine.specs.Path.WellFormed.{AreAlike}
use Rattle.loom_engine.proofs.Path.Alike.{alike_same}
use Rattle.loom_engine.proofs.rt.path.Path.notes_follow.Goals as goal

pub returns : goal.returns
returns c = λ e.
    let one = c.self.inside.nodes.list in
    let two = c.other.inside.nodes.list in
    let mine = ap (λ (r : Route). r.nodes) c.self.view_is in
    let its = ap (λ (r : Route). r.nodes) c.other.view_is in
    sym mine ∙ alike_same one two c.self.invariant.3 c.other.invariant.3 (subst (λ l. AreAlike l two) (sym mine) (subst (AreAlike c.args.self.now.nodes) (sym its) e)) ∙ its
