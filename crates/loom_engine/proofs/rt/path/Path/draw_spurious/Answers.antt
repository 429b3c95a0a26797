use Rattle.std.proofs.Common.{◌≡◌, ◌+◌, ◌<◌, [], ◌∷◌, ◌++◌, true, refl, ap, sym, ◌∙◌, subst, rules}
use Rattle.loom_objects.specs.Exploring.{is_on}
use Rattle.loom_objects.specs.Tree.Asked.{whether_spurious}
use Rattle.loom_engine.specs.declared.rt.path.node.Node.{Node}
use Rattle.loom_engine.specs.declared.rt.path.node.Node.TheVariants as node
use Rattle.loom_engine.specs.Path.Route.{Route}
use Rattle.loom_engine.specs.Path.Tallies.{IsValueAt}
use Rattle.loom_engine.proofs.Nodes.Notes.{node_last, value_here}
use Rattle.loom_engine.proofs.Path.Drawing.{makes_more, takes_drawn}
use Rattle.loom_engine.proofs.rt.path.Path.draw_spurious.Goals as goal

pub pass_value-requires : goal.pass_value-requires
pass_value-requires g c =
    let p : Route = c.args.self.now in
    let n : Node = node.Spurious c.drawn_spurious-spurious.result in
    subst (λ (r : Route). IsValueAt r.nodes r.position) (sym c.in-Ok.ensures.made)
    (value_here (p.nodes ++ n ∷ []) p.position n (node_last p.nodes p.position n (sym c.requires.past)) refl)

pub returns-in-Ok-clause-says : goal.returns-in-Ok-clause-says
returns-in-Ok-clause-says g c = λ no given b.
    let p : Route = c.args.self.now in
    let n : Node = node.Spurious c.drawn_spurious-spurious.result in
    let room : p.position < p.search.max_branches = search rules in
    let is : c.pass_value.new.self ≡ record p { nodes = p.nodes ++ n ∷ []; position = p.position + 1 } = c.pass_value.ensures ∙ ap (λ (r : Route). record r { position = r.position + 1 }) c.in-Ok.ensures.made in
    takes_drawn p c.pass_value.new.self n c.requires.past is (whether_spurious (is_on p.exploring)) room true refl c.drawn_spurious-spurious.ensures given b

pub returns-in-Ok-clause-more : goal.returns-in-Ok-clause-more
returns-in-Ok-clause-more g c =
    let p : Route = c.args.self.now in
    let n : Node = node.Spurious c.drawn_spurious-spurious.result in
    makes_more p c.pass_value.new.self n c.requires.past (c.pass_value.ensures ∙ ap (λ (r : Route). record r { position = r.position + 1 }) c.in-Ok.ensures.made)
