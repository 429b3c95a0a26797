use Rattle.std.proofs.Common.{sym, ap, ◌∙◌}
use Rattle.loom_objects.specs.declared.choice.Choice.TheVariants.{Load}
use Rattle.loom_engine.specs.Path.Nodes.{seen}
use Rattle.loom_engine.specs.Path.Words.{kind_in}
use Rattle.loom_engine.proofs.rt.path.word.choice.Goals as goal

pub returns-in-1 : goal.returns-in-1
returns-in-1 c = λ places.
    ap Load c.drawn_slot.ensures ∙ ap (λ k. (seen (kind_in k c.args.word places)).present) (sym c.in-1.is ∙ c.bits.ensures)
