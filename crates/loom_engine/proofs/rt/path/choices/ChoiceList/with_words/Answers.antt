use Rattle.std.proofs.Common.{map, take, ap, sym, ◌∙◌}
use Rattle.std.proofs.lemmas.List.{take-map}
use Rattle.loom_engine.specs.Path.Words.{choice_in}
use Rattle.loom_engine.proofs.rt.path.choices.ChoiceList.with_words.Goals as goal

pub loop-place-init : goal.loop-place-init
loop-place-init c =
    let same = c.count_same-same.result in
    c.truncate.ensures.items ∙ ap (take same) c.self.invariant ∙ take-map choice_in same c.self.inside.words.items
    ∙ ap (map choice_in) (ap (take same) (sym c.as_slice.ensures.value) ∙ c.count_same-same.ensures.same)
