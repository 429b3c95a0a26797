use Rattle.std.proofs.Common.{◌≡◌, ◌+◌, suc, List, [], ◌∷◌, ◌++◌, map, take, ap, ◌∙◌, arith}
use Rattle.loom_objects.specs.declared.choice.Choice.{Choice}
use Rattle.loom_engine.specs.declared.rt.path.node.Node.{Node}
use Rattle.loom_engine.specs.Path.Nodes.{seen}
use Rattle.loom_engine.proofs.Path.Nodes.Paths.{chosen_next}
use Rattle.loom_engine.proofs.rt.path.choices_at.Goals as goal

pub loop-place-preserved : goal.loop-place-preserved
loop-place-preserved c =
    let l = c.loop-place in
    let nodes = c.args.nodes.now in
    let next : suc l.place ≡ l.place + 1 = omega arith in
    c.in_ok-push.ensures.items ∙ ap (λ (cs : List Choice). cs ++ c.choice.result ∷ []) l.invariant ∙ chosen_next nodes l.place c.choice.result c.choice.ensures
    ∙ ap (λ k. map (λ (n : Node). (seen n).present) (take k nodes)) next
