use Rattle.std.proofs.Common.{◌==◌, length, ap, sym, ◌∙◌}
use Rattle.loom_engine.proofs.Path.Words.{laid_nodes}
use Rattle.loom_engine.proofs.rt.path.list.NodeList.is_empty.Goals as goal

pub returns : goal.returns
returns c =
    c.is_empty.ensures
    ∙ ap (λ n. n == 0) (c.self.inside.words.ok.0 ∙ sym (laid_nodes c.self.inside.words.items c.self.inside.places.items c.self.invariant) ∙ ap length c.self.view_is)
