use Rattle.std.proofs.Common.{rules, ◌≡◌, ◌-◌, length, take, drop, false, [], ◌∷◌, ◌++◌, sym, ◌∙◌, subst, Some}
use Rattle.loom_objects.specs.Choice.{after_word, is_space}
use Rattle.loom.specs.Model.ChoicesRead.{choices_in}
use Rattle.loom.proofs.ModelLemmas.Reading.{put_before, step_word}
use Rattle.loom.proofs.choices.Choices.parse.Goals as goal

pub loop-first-preserved : goal.loop-first-preserved
loop-first-preserved c =
    let space : is_space c.in-Some.first.now ≡ false = sym c.is_space.ensures ∙ c.if-is_space.false in
    let word : after_word c.in-Some.first.now c.in-Some.after.now ≡ Some c.in-Some-first_word.choice = sym c.first_word.ensures ∙ c.in-Some-first_word.is in
    let items : c.push.new.self.items ≡ c.loop-first.choices.items ++ c.in-Some-first_word.choice ∷ [] = search rules in
    subst (λ l. choices_in c.args.text.now ≡ put_before l (choices_in (take (length c.in-Some.after.now - 1) (drop 1 c.in-Some.after.now)))) (sym items)
    (step_word c.args.text.now c.loop-first.choices.items c.loop-first.rest.now c.in-Some.first.now c.in-Some.after.now c.in-Some-first_word.choice c.loop-first.invariant
    c.in-Some.ensures.cases.0 space word)
