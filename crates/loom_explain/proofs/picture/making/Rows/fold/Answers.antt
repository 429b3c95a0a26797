use Rattle.std.proofs.Common.{◌∙◌, ap, [], ◌∷◌, ◌++◌}
use Rattle.loom_explain.specs.declared.picture.Row.TheVariants.{Folded}
use Rattle.loom_explain.proofs.Telling.{folds_on}
use Rattle.loom_explain.proofs.picture.making.Rows.fold.Goals as goal

pub returns : goal.returns
returns c =
    folds_on c.args.self.now.list.items c.push.new.self.items c.args.count
    (c.in_ok-push.ensures.items ∙ ap (λ l. l ++ Folded c.args.count ∷ []) c.in_ok-pass_to.ensures)
