use Rattle.std.proofs.Common.{◌≡◌, ◌+◌, ◌<◌, [], ◌∷◌, ◌++◌, Some, refl, ap, sym, ◌∙◌, subst, rules}
use Rattle.std.specs.Prelude.{slice_get, Ok}
use Rattle.loom_objects.specs.declared.choice.Choice.{Choice}
use Rattle.loom_objects.specs.Exploring.{is_on}
use Rattle.loom_objects.specs.Tree.Asked.{which_thread}
use Rattle.loom_objects.specs.Tree.Question.{Question}
use Rattle.loom_engine.specs.declared.rt.path.node.Node.{Node}
use Rattle.loom_engine.specs.declared.rt.path.node.Node.TheVariants as node
use Rattle.loom_engine.specs.Path.Drawn.{led_by}
use Rattle.loom_engine.specs.Path.Route.{Route, trail}
use Rattle.loom_engine.proofs.Nodes.Notes.{node_last}
use Rattle.loom_engine.proofs.Path.Drawing.{makes_more, takes_drawn}
use Rattle.loom_engine.proofs.rt.path.Path.draw_thread.Goals as goal

pub pass-requires-clause-stands : goal.pass-requires-clause-stands
pass-requires-clause-stands g c =
    let p : Route = c.args.self.now in
    let n : Node = node.Schedule c.drawn_schedule-chosen.result.0 in
    subst (λ (r : Route). slice_get r.nodes r.position ≡ Some n) (sym c.in-Ok.ensures.made) (node_last p.nodes p.position n (sym c.requires.past))

pub returns-in-Ok-clause-says : goal.returns-in-Ok-clause-says
returns-in-Ok-clause-says g c = λ places no given b.
    let p : Route = c.args.self.now in
    let n : Node = node.Schedule c.drawn_schedule-chosen.result.0 in
    let question : Question = which_thread (is_on p.exploring) c.args.offers.now places in
    let room : p.position < p.search.max_branches = search rules in
    let is : c.pass.new.self ≡ record p { nodes = p.nodes ++ n ∷ []; position = p.position + 1 } = c.pass.ensures ∙ ap (λ (r : Route). record r { position = r.position + 1 }) c.in-Ok.ensures.made in
    takes_drawn p c.pass.new.self n c.requires.past is question room _ refl (c.drawn_schedule-chosen.ensures.made places) given b
    ∙ ap (λ (o : Choice). (Ok o, trail (led_by given c.pass.new.self))) (sym c.drawn_schedule-chosen.ensures.present)

pub returns-in-Ok-clause-more : goal.returns-in-Ok-clause-more
returns-in-Ok-clause-more g c =
    let p : Route = c.args.self.now in
    let n : Node = node.Schedule c.drawn_schedule-chosen.result.0 in
    makes_more p c.pass.new.self n c.requires.past (c.pass.ensures ∙ ap (λ (r : Route). record r { position = r.position + 1 }) c.in-Ok.ensures.made)
