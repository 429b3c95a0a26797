use Rattle.std.proofs.Common.{ap, ◌∙◌, [], ◌∷◌, ◌++◌}
use Rattle.loom_objects.proofs.Dependence.Lists.{append-copies-more}
use Rattle.loom_objects.proofs.rt.dependence.append_copies.Goals as goal

pub loop-preserved : goal.loop-preserved
loop-preserved g c = c.in_ok-push.ensures.ok ∙ ap (λ xs. xs ++ c.args.value ∷ []) c.loop.invariant ∙ append-copies-more c.args.items.now c.loop.counter c.args.value
