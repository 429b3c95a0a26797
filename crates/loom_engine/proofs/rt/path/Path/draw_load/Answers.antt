use Rattle.std.proofs.Common.{◌≡◌, ◌+◌, ◌<◌, [], ◌∷◌, ◌++◌, Some, true, ap, sym, ◌∙◌, subst, rules}
use Rattle.std.specs.Prelude.{Ok}
use Rattle.loom_objects.specs.declared.choice.Choice.{Choice}
use Rattle.loom_objects.specs.Exploring.{is_on}
use Rattle.loom_objects.specs.Tree.Question.{Question, made_of}
use Rattle.loom_objects.specs.Tree.Stores.{slots, which_store}
use Rattle.loom_engine.specs.declared.rt.path.node.Load.{Load}
use Rattle.loom_engine.specs.declared.rt.path.node.Node.{Node}
use Rattle.loom_engine.specs.declared.rt.path.node.Node.TheVariants as node
use Rattle.loom_engine.specs.Path.Drawn.{led_by}
use Rattle.loom_engine.specs.Path.Nodes.{seen_load}
use Rattle.loom_engine.specs.Path.Route.{Route, trail}
use Rattle.loom_engine.specs.Path.Tallies.{IsValueAt}
use Rattle.loom_engine.proofs.Nodes.Marking.Nearest.{is_no_thread}
use Rattle.loom_engine.proofs.Nodes.Nodes.Slots.{load_readable, some_slot}
use Rattle.loom_engine.proofs.Nodes.Nodes.Turns.{new_is_made}
use Rattle.loom_engine.proofs.Nodes.Notes.{node_last, value_here}
use Rattle.loom_engine.proofs.Path.Drawing.{makes_more, takes_drawn}
use Rattle.loom_engine.proofs.Path.Nodes.Paths.{every_load}
use Rattle.loom_engine.proofs.rt.path.Path.draw_load.Goals as goal

pub pass_value-requires : goal.pass_value-requires
pass_value-requires g c =
    let p : Route = c.args.self.now in
    let n : Node = node.Load c.drawn_load-slot.result.0 in
    subst (λ (r : Route). IsValueAt r.nodes r.position) (sym c.in-Ok.ensures.made)
    (value_here (p.nodes ++ n ∷ []) p.position n (node_last p.nodes p.position n (sym c.requires.past)) (is_no_thread n (λ s e. cc e)))

pub returns-in-Ok-clause-says : goal.returns-in-Ok-clause-says
returns-in-Ok-clause-says g c = λ no given b.
    let p : Route = c.args.self.now in
    let n : Node = node.Load c.drawn_load-slot.result.0 in
    let question : Question = which_store (is_on p.exploring) c.args.readable.now in
    let room : p.position < p.search.max_branches = search rules in
    let is : c.pass_value.new.self ≡ record p { nodes = p.nodes ++ n ∷ []; position = p.position + 1 } = c.pass_value.ensures ∙ ap (λ (r : Route). record r { position = r.position + 1 }) c.in-Ok.ensures.made in
    takes_drawn p c.pass_value.new.self n c.requires.past is question room true (every_load (is_on p.exploring) (slots c.args.readable.now) p) c.drawn_load-slot.ensures.made given b
    ∙ ap (λ (o : Choice). (Ok o, trail (led_by given c.pass_value.new.self))) (sym c.drawn_load-slot.ensures.present)

pub returns-in-Ok-clause-more : goal.returns-in-Ok-clause-more
returns-in-Ok-clause-more g c =
    let p : Route = c.args.self.now in
    let n : Node = node.Load c.drawn_load-slot.result.0 in
    makes_more p c.pass_value.new.self n c.requires.past (c.pass_value.ensures ∙ ap (λ (r : Route). record r { position = r.position + 1 }) c.in-Ok.ensures.made)

pub returns-in-Ok-clause-readable : goal.returns-in-Ok-clause-readable
returns-in-Ok-clause-readable g c =
    let p : Route = c.args.self.now in
    let load : Load = c.drawn_load-slot.result.0 in
    load_readable load.exploring (is_on p.exploring) load.readable c.args.readable.now load.position c.drawn_load-slot.result.1 c.drawn_load-slot.ensures.well (some_slot c.args.readable.now c.requires.some)
    c.drawn_load-slot.ensures.present (new_is_made (made_of (which_store (is_on p.exploring) c.args.readable.now)) (Some (seen_load load).present) (seen_load load) c.drawn_load-slot.ensures.made)
