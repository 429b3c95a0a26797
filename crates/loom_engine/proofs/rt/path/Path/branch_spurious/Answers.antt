use Rattle.std.proofs.Common.{◌≡◌, ◌≤◌, ◌<◌, ◌+◌, [], ◌∷◌, ◌++◌, length, true, refl, ap, ◌∙◌, subst, sym, arith, rules}
use Rattle.loom_objects.specs.Exploring.{is_on}
use Rattle.loom_objects.specs.Tree.Question.{Question, made_of}
use Rattle.loom_objects.specs.declared.choice.Choice.TheVariants.{Spurious}
use Rattle.loom_engine.specs.Trees.Drive.{new_node}
use Rattle.loom_engine.specs.declared.rt.path.node.Node.{Node}
use Rattle.loom_engine.specs.declared.rt.path.node.Node.TheVariants as node
use Rattle.loom_engine.specs.Path.Route.{Route}
use Rattle.loom_engine.specs.Path.Tallies.{IsValueAt}
use Rattle.loom_objects.specs.Tree.Asked.{whether_spurious}
use Rattle.loom_engine.specs.contracts.rt.path.Path.{the_view}
use Rattle.loom_engine.proofs.Path.Nodes.Paths.{past_end, end_of, follows, passed_on, differs, full, refuses, makes, grows}
use Rattle.loom_engine.proofs.Nodes.Notes.{node_last, value_here}
use Rattle.loom_engine.proofs.rt.path.Path.branch_spurious.Goals as goal

pub pass_value-requires-in-Ok : goal.pass_value-requires-in-Ok
pass_value-requires-in-Ok c =
    let p : Route = c.args.self.now in
    let n : Node = node.Spurious c.in-Some.spurious in
    let held : length (the_view c.self.inside).nodes ≤ (the_view c.self.inside).position = omega arith in
    let last : p.position ≡ length p.nodes = end_of (the_view c.self.inside) p c.self.view_is c.self.invariant.0 held in
    subst (λ (r : Route). IsValueAt r.nodes r.position) (sym c.in-Ok.ensures.made) (value_here (p.nodes ++ n ∷ []) p.position n (node_last p.nodes p.position n last) refl)

pub returns-then-not-meets-clause-says : goal.returns-then-not-meets-clause-says
returns-then-not-meets-clause-says c =
    let p : Route = the_view c.self.inside in
    let n : Node = node.Spurious c.in-Spurious.spurious in
    let on : c.is_exploring-exploring.result ≡ is_on p.exploring = c.is_exploring-exploring.ensures ∙ ap (λ (r : Route). is_on r.exploring) (sym c.self.view_is) in
    rw (c.failed-then-not-meets.ensures, ← c.self.view_is) (
      differs p (whether_spurious (is_on p.exploring)) n (omega arith) c.in-Spurious.ensures
          (λ e. let met = c.if-not-meets.ensures.1 (e ∙ ap (λ b. made_of (whether_spurious b)) (sym on)) in cc met),
      refl,
    )

pub returns-then-self-len-clause-says : goal.returns-then-self-len-clause-says
returns-then-self-len-clause-says c =
    let p : Route = the_view c.self.inside in
    let n : Node = node.Spurious c.in-Spurious.spurious in
    let question : Question = whether_spurious (is_on c.args.self.now.exploring) in
    passed_on p c.args.self.now question (Spurious c.in-Spurious.spurious.answer) c.pass_value.new.self c.self.view_is
    (follows p question n (Spurious c.in-Spurious.spurious.answer) (omega arith) c.in-Spurious.ensures (c.if-not-meets.ensures.0 refl ∙ ap (λ b. made_of (whether_spurious b)) c.is_exploring-exploring.ensures) refl)
    c.pass_value.ensures

pub returns-then-is_full-clause-says : goal.returns-then-is_full-clause-says
returns-then-is_full-clause-says c =
    let p : Route = c.args.self.now in
    let held : length (the_view c.self.inside).nodes ≤ (the_view c.self.inside).position = omega arith in
    let past : length p.nodes ≤ p.position = past_end (the_view c.self.inside) p c.self.view_is held in
    rw c.failed-then-is_full.ensures (full p (whether_spurious (is_on p.exploring)) past (c.if-is_full.ensures.0 refl), refl)

pub returns-in_default-new_spurious-clause-says : goal.returns-in_default-new_spurious-clause-says
returns-in_default-new_spurious-clause-says c =
    let p : Route = c.args.self.now in
    let question : Question = whether_spurious (is_on p.exploring) in
    let held : length (the_view c.self.inside).nodes ≤ (the_view c.self.inside).position = omega arith in
    let past : length p.nodes ≤ p.position = past_end (the_view c.self.inside) p c.self.view_is held in
    let room : p.position < p.search.max_branches = search rules in
    rw c.failed-in_default-new_spurious.ensures
    (refuses p question past room true refl (c.in_default-new_spurious.ensures ∙ ap (λ b. new_node true (made_of (whether_spurious b)) c.given_here.result) c.is_exploring-exploring.ensures ∙ ap (new_node true (made_of question)) c.given_here.ensures), refl)

pub returns-in-Err-clause-says : goal.returns-in-Err-clause-says
returns-in-Err-clause-says c =
    let p : Route = c.args.self.now in
    let question : Question = whether_spurious (is_on p.exploring) in
    let held : length (the_view c.self.inside).nodes ≤ (the_view c.self.inside).position = omega arith in
    let past : length p.nodes ≤ p.position = past_end (the_view c.self.inside) p c.self.view_is held in
    let room : p.position < p.search.max_branches = search rules in (
      c.in-Err.ensures.same,
      grows p question past room true refl (node.Spurious c.in-Some.spurious) (c.in-Some.ensures ∙ ap (λ b. new_node true (made_of (whether_spurious b)) c.given_here.result) c.is_exploring-exploring.ensures ∙ ap (new_node true (made_of question)) c.given_here.ensures),
    )

pub returns-in-Ok-clause-says : goal.returns-in-Ok-clause-says
returns-in-Ok-clause-says c =
    let p : Route = c.args.self.now in
    let held : length (the_view c.self.inside).nodes ≤ (the_view c.self.inside).position = omega arith in
    let past : length p.nodes ≤ p.position = past_end (the_view c.self.inside) p c.self.view_is held in
    let room : p.position < p.search.max_branches = search rules in
    makes p (whether_spurious (is_on p.exploring)) past room true refl (node.Spurious c.in-Some.spurious) (Spurious c.in-Some.spurious.answer) c.pass_value-in-Ok.new.self
    (c.in-Some.ensures ∙ ap (λ b. new_node true (made_of (whether_spurious b)) c.given_here.result) c.is_exploring-exploring.ensures ∙ ap (new_node true (made_of (whether_spurious (is_on p.exploring)))) c.given_here.ensures) refl
    (c.pass_value-in-Ok.ensures ∙ ap (λ (r : Route). record r { position = r.position + 1 }) c.in-Ok.ensures.made)
