use Rattle.std.proofs.Common.{◌≤◌, ◌<◌, ℕ, length, slice_index, refl, ap, sym, ◌∙◌, arith, rules}
use Rattle.std.specs.Prelude.{true}
use Rattle.loom_objects.specs.Exploring.{is_on}
use Rattle.loom_objects.specs.Tree.Question.{Question, made_of}
use Rattle.loom_objects.specs.Tree.Stores.{slots, which_store}
use Rattle.loom_engine.specs.Trees.Drive.{new_node}
use Rattle.loom_engine.specs.declared.rt.path.node.Load.{Load}
use Rattle.loom_engine.specs.declared.rt.path.node.Node.{Node}
use Rattle.loom_engine.specs.declared.rt.path.node.Node.TheVariants as node
use Rattle.loom_engine.specs.Path.Nodes.{seen, seen_load}
use Rattle.loom_engine.specs.Path.Route.{Route}
use Rattle.loom_engine.proofs.Nodes.Nodes.Slots.{some_slot, load_readable}
use Rattle.loom_engine.proofs.Nodes.Nodes.Turns.{new_is_made}
use Rattle.loom_engine.proofs.Path.Nodes.Paths.{every_load, full, refuses, pushes, grows, choice_made}
use Rattle.loom_engine.proofs.rt.path.Path.make_load.Goals as goal

pub returns-then-is_full-clause-pushes : goal.returns-then-is_full-clause-pushes
returns-then-is_full-clause-pushes c =
    let p : Route = c.args.self.now in
    let past : length p.nodes ≤ p.position = omega (arith, c.requires.past) in
    rw c.failed.ensures (full p (which_store (is_on p.exploring) c.args.readable) past (c.if-is_full.ensures.0 refl), refl)

pub returns-in_default-clause-pushes : goal.returns-in_default-clause-pushes
returns-in_default-clause-pushes c =
    let p : Route = c.args.self.now in
    let question : Question = which_store (is_on p.exploring) c.args.readable in
    let past : length p.nodes ≤ p.position = omega (arith, c.requires.past) in
    let room : p.position < p.search.max_branches = search rules in
    rw c.failed-in_default.ensures
    (refuses p question past room true (every_load (is_on p.exploring) (slots c.args.readable) p) (c.in_default.ensures.made ∙ ap (λ b. new_node true (made_of (which_store b c.args.readable)) c.given_here.result) c.is_exploring-exploring.ensures ∙ ap (new_node true (made_of question)) c.given_here.ensures), refl)

pub returns-in-Ok-clause-pushes : goal.returns-in-Ok-clause-pushes
returns-in-Ok-clause-pushes c =
    let p : Route = c.args.self.now in
    let question : Question = which_store (is_on p.exploring) c.args.readable in
    let n : Node = node.Load c.in-Some.load in
    let past : length p.nodes ≤ p.position = omega (arith, c.requires.past) in
    let room : p.position < p.search.max_branches = search rules in (
      (seen n).present,
      choice_made p c.push.new.self n (sym c.requires.past) c.in-Ok.ensures.made,
      pushes p question past room true (every_load (is_on p.exploring) (slots c.args.readable) p) n c.push.new.self
          (c.in-Some.ensures.made ∙ ap (λ b. new_node true (made_of (which_store b c.args.readable)) c.given_here.result) c.is_exploring-exploring.ensures ∙ ap (new_node true (made_of question)) c.given_here.ensures) c.in-Ok.ensures.made,
    )

pub returns-in-Ok-clause-readable : goal.returns-in-Ok-clause-readable
returns-in-Ok-clause-readable c =
    let p : Route = c.args.self.now in
    let load : Load = c.in-Some.load in
    let slot : ℕ = slice_index (slots load.readable) load.position in (
      slot,
      choice_made p c.push.new.self (node.Load load) (sym c.requires.past) c.in-Ok.ensures.made,
      load_readable load.exploring c.is_exploring-exploring.result load.readable c.args.readable load.position slot c.in-Some.ensures.well (some_slot c.args.readable c.requires.some) refl
          (new_is_made (made_of (which_store c.is_exploring-exploring.result c.args.readable)) c.given_here.result (seen_load load) c.in-Some.ensures.made),
    )

pub returns-in-Ok-clause-same : goal.returns-in-Ok-clause-same
returns-in-Ok-clause-same c = (
  (
    (ap (λ (r : Route). r.search) c.in-Ok.ensures.made, ap (λ (r : Route). r.explores) c.in-Ok.ensures.made, ap (λ (r : Route). r.given) c.in-Ok.ensures.made),
    ap (λ (r : Route). r.exploring) c.in-Ok.ensures.made,
  ),
  ap (λ (r : Route). r.position) c.in-Ok.ensures.made,
)

pub returns-in-Err-clause-pushes : goal.returns-in-Err-clause-pushes
returns-in-Err-clause-pushes c =
    let p : Route = c.args.self.now in
    let question : Question = which_store (is_on p.exploring) c.args.readable in
    let past : length p.nodes ≤ p.position = omega (arith, c.requires.past) in
    let room : p.position < p.search.max_branches = search rules in (
      c.in-Err.ensures.same,
      grows p question past room true (every_load (is_on p.exploring) (slots c.args.readable) p) (node.Load c.in-Some.load) (c.in-Some.ensures.made ∙ ap (λ b. new_node true (made_of (which_store b c.args.readable)) c.given_here.result) c.is_exploring-exploring.ensures ∙ ap (new_node true (made_of question)) c.given_here.ensures),
    )
