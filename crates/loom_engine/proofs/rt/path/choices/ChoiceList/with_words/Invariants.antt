use Rattle.std.proofs.Common.{◌≡◌, map, take}
use Rattle.loom_engine.specs.Path.Words.{choice_in}
use Rattle.loom_engine.proofs.rt.path.choices.ChoiceList.with_words.Given as goal

abbrev pub invariant-loop-place : goal.invariant-loop-place
invariant-loop-place l = l.list.items ≡ map choice_in (take l.place l.words)
