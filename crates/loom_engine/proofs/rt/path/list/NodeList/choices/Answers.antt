use Rattle.std.proofs.Common.{◌≡◌, ◌≤◌, List, ℕ, length, map, take, ap, subst, sym, ◌∙◌, arith}
use Rattle.std.specs.Prelude.{IfOk}
use Rattle.std.proofs.lemmas.List.{length-take-le}
use Rattle.loom_objects.specs.declared.choice.Choice.{Choice}
use Rattle.loom_engine.specs.declared.rt.path.node.Node.{Node}
use Rattle.loom_engine.specs.Path.Nodes.{seen}
use Rattle.loom_engine.specs.Path.Words.{choice_in, nodes_in}
use Rattle.loom_engine.proofs.Path.Words.{laid_choices, laid_nodes}
use Rattle.loom_engine.proofs.rt.path.list.NodeList.choices.Goals as goal

pub slice_bounds-with_words-end : goal.slice_bounds-with_words-end
slice_bounds-with_words-end c =
    let ws = c.self.inside.words in
    let ps = c.self.inside.places in
    let h : c.args.count ≤ length (nodes_in ws.items ps.items) = subst (λ (l : List Node). c.args.count ≤ length l) (sym c.self.view_is) c.requires in
    let within : c.args.count ≤ length c.deref.result.now = omega (arith, h, laid_nodes ws.items ps.items c.self.invariant, ap length c.deref.ensures.value, ws.ok.0) in
    omega (arith, within, length-take-le c.args.count c.deref.result.now within)

pub returns : goal.returns
returns c =
    let ws = c.self.inside.words.items in
    let ps = c.self.inside.places.items in
    let same : map choice_in (take c.args.count c.deref.result.now) ≡ map (λ (n : Node). (seen n).present) (take c.args.count c.args.self.now) =
    ap (λ (l : List ℕ). map choice_in (take c.args.count l)) c.deref.ensures.value ∙ laid_choices ws ps c.args.count c.self.invariant
    ∙ ap (λ (l : List Node). map (λ (n : Node). (seen n).present) (take c.args.count l)) c.self.view_is in
    subst (λ (l : List Choice). IfOk c.with_words.result (λ choices. choices ≡ l)) same c.with_words.ensures
