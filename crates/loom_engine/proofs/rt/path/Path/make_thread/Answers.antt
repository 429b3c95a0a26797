use Rattle.std.proofs.Common.{◌≡◌, ◌≤◌, ◌<◌, ◌+◌, length, Some, refl, ap, sym, ◌∙◌, subst, arith, rules}
use Rattle.std.specs.Prelude.{slice_get}
use Rattle.loom_objects.specs.Exploring.{is_on}
use Rattle.loom_objects.specs.Tree.Question.{Question}
use Rattle.loom_objects.specs.declared.choice.Choice.TheVariants.{Thread}
use Rattle.loom_engine.specs.declared.rt.path.node.Node.{Node}
use Rattle.loom_engine.specs.declared.rt.path.node.Node.TheVariants as node
use Rattle.loom_engine.specs.Path.Route.{Route}
use Rattle.loom_objects.specs.Tree.Asked.{which_thread}
use Rattle.loom_engine.proofs.Path.Nodes.Paths.{full, refuses, makes, grows}
use Rattle.loom_engine.proofs.Nodes.Notes.{node_last}
use Rattle.loom_engine.proofs.rt.path.Path.make_thread.Goals as goal

pub pass-requires-clause-stands : goal.pass-requires-clause-stands
pass-requires-clause-stands c =
    let p : Route = c.args.self.now in
    let n : Node = node.Schedule c.in-Some.schedule in
    let last : p.position ≡ length p.nodes = sym c.requires.past in
    subst (λ (r : Route). slice_get r.nodes r.position ≡ Some n) (sym c.in-Ok.ensures.made) (node_last p.nodes p.position n last)

pub returns-then-is_full-clause-says : goal.returns-then-is_full-clause-says
returns-then-is_full-clause-says c = λ places.
    let p : Route = c.args.self.now in
    let past : length p.nodes ≤ p.position = omega (arith, c.requires.past) in
    rw c.failed.ensures (full p (which_thread (is_on p.exploring) c.args.offers places) past (c.if-is_full.ensures.0 refl), refl)

pub returns-in_default-clause-says : goal.returns-in_default-clause-says
returns-in_default-clause-says c = λ places.
    let p : Route = c.args.self.now in
    let question : Question = which_thread (is_on p.exploring) c.args.offers places in
    let past : length p.nodes ≤ p.position = omega (arith, c.requires.past) in
    let room : p.position < p.search.max_branches = search rules in
    rw c.failed-in_default.ensures (refuses p question past room _ refl (c.in_default.ensures.made places), refl)

pub returns-in-Err-clause-says : goal.returns-in-Err-clause-says
returns-in-Err-clause-says c = λ places.
    let p : Route = c.args.self.now in
    let question : Question = which_thread (is_on p.exploring) c.args.offers places in
    let past : length p.nodes ≤ p.position = omega (arith, c.requires.past) in
    let room : p.position < p.search.max_branches = search rules in
    (c.in-Err.ensures.same, grows p question past room _ refl (node.Schedule c.in-Some.schedule) (c.in-Some.ensures.made places))

pub returns-in-Ok-clause-says : goal.returns-in-Ok-clause-says
returns-in-Ok-clause-says c = λ places.
    let p : Route = c.args.self.now in
    let question : Question = which_thread (is_on p.exploring) c.args.offers places in
    let past : length p.nodes ≤ p.position = omega (arith, c.requires.past) in
    let room : p.position < p.search.max_branches = search rules in
    makes p question past room _ refl (node.Schedule c.in-Some.schedule) (Thread c.active-chosen.result) c.pass.new.self
    (c.in-Some.ensures.made places) c.active-chosen.ensures.present
    (c.pass.ensures ∙ ap (λ (r : Route). record r { position = r.position + 1 }) c.in-Ok.ensures.made)
