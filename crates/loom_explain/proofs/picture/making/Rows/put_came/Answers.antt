use Rattle.std.proofs.Common.{◌∙◌, ap, [], ◌∷◌, ◌++◌}
use Rattle.loom_explain.specs.declared.picture.Row.TheVariants.{Came}
use Rattle.loom_explain.proofs.Telling.{came_on}
use Rattle.loom_explain.proofs.picture.making.Rows.put_came.Goals as goal

pub loop-place-preserved : goal.loop-place-preserved
loop-place-preserved c =
    came_on c.args.self.now.list.items c.loop-place.self.list.items c.push.new.self.items c.in_ok-shown.shown
    (c.in_ok-push.ensures.items ∙ ap (λ l. l ++ Came c.in_ok-shown.shown ∷ []) c.in_ok-pass.ensures) c.loop-place.invariant
