use Rattle.std.proofs.Common.{◌++◌, ap, ◌∙◌}
use Rattle.loom_views.proofs.sequence.Sequence.append.Goals as goal

pub returns : goal.returns
returns g c = c.in_ok-append.ensures.items ∙ ap (λ xs. xs ++ c.other.inside.items.items) c.self.view_is ∙ ap (λ ys. c.args.self.now ++ ys) c.other.view_is
