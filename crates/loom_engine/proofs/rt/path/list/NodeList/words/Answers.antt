use Rattle.std.proofs.Common.{map, ap, ◌∙◌}
use Rattle.loom_engine.specs.Path.Words.{word_of}
use Rattle.loom_engine.proofs.Path.Words.{laid_words}
use Rattle.loom_engine.proofs.rt.path.list.NodeList.words.Goals as goal

pub returns : goal.returns
returns c = c.deref.ensures.value ∙ laid_words c.self.inside.words.items c.self.inside.places.items c.self.invariant ∙ ap (map word_of) c.self.view_is
