use Rattle.std.proofs.Common.{◌≡◌, List, map, take, ap, subst, sym, ◌∙◌}
use Rattle.std.specs.Prelude.{IfOk}
use Rattle.loom_objects.specs.declared.choice.Choice.{Choice}
use Rattle.loom_engine.specs.declared.rt.path.node.Node.{Node}
use Rattle.loom_engine.specs.Path.Nodes.{seen}
use Rattle.loom_engine.specs.Path.Route.{chosen}
use Rattle.loom_engine.proofs.Path.Nodes.Paths.{taken}
use Rattle.loom_engine.proofs.rt.path.Path.choices_after.Goals as goal

pub returns : goal.returns
returns c =
    let p = c.self.inside in
    let same : map (λ (n : Node). (seen n).present) (take p.nodes.position p.nodes.list) ≡ chosen c.args.self.now =
    sym (taken p.nodes.position p.nodes.list) ∙ ap chosen c.self.view_is in
    subst (λ (l : List Choice). IfOk c.choices.result (λ choices. choices ≡ l)) same c.choices.ensures
