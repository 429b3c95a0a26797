use Rattle.std.proofs.Common.{◌∙◌, ap, [], ◌∷◌, ◌++◌}
use Rattle.loom_explain.specs.declared.picture.Row.TheVariants.{Told}
use Rattle.loom_explain.proofs.Telling.{told_on, told_whole}
use Rattle.loom_explain.proofs.picture.making.Rows.tell.Goals as goal

pub returns-clause-told : goal.returns-clause-told
returns-clause-told c =
    told_on c.args.self.now.list.items c.put_came.new.self.list.items c.push.new.self.items c.in_ok-shown.shown c.args.number c.args.event.now
    (c.in_ok-push.ensures.items ∙ ap (λ l. l ++ Told c.in_ok-shown.shown ∷ []) c.in_ok-pass.ensures)
    c.in_ok-shown.ensures.0 c.in_ok-shown.ensures.1 c.in_ok-put_came.ensures.told

pub returns-clause-whole : goal.returns-clause-whole
returns-clause-whole c =
    told_whole c.args.self.now.list.items c.put_came.new.self.list.items c.push.new.self.items c.in_ok-shown.shown
    (c.in_ok-push.ensures.items ∙ ap (λ l. l ++ Told c.in_ok-shown.shown ∷ []) c.in_ok-pass.ensures) c.in_ok-put_came.ensures.whole
