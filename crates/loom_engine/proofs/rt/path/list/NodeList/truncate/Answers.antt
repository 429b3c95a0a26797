use Rattle.std.proofs.Common.{take, ap, ◌∙◌}
use Rattle.loom_engine.proofs.Path.Words.{laid_front, nodes_front}
use Rattle.loom_engine.proofs.rt.path.list.NodeList.truncate.Goals as goal

pub invariant_of-self : goal.invariant_of-self
invariant_of-self c = rw (c.truncate.ensures.items, c.truncate-2.ensures.items) (laid_front c.self.inside.words.items c.self.inside.places.items c.args.count c.self.invariant)

pub returns : goal.returns
returns c =
    rw (c.truncate.ensures.items, c.truncate-2.ensures.items)
    (nodes_front c.self.inside.words.items c.self.inside.places.items c.args.count c.self.invariant ∙ ap (take c.args.count) c.self.view_is)
