use Rattle.std.proofs.Common.{◌≡◌, ◌≢◌, [], Some, refl, ap, sym, ◌∙◌, subst, arith}
use Rattle.std.specs.Prelude.{slice_get, IsSomeAnd}
use Rattle.loom_objects.specs.Exploring.{is_on}
use Rattle.loom_objects.specs.Tree.Question.{Question, made_of}
use Rattle.loom_objects.specs.declared.choice.Choice.TheVariants.{Thread}
use Rattle.loom_engine.specs.declared.rt.path.node.Node.{Node}
use Rattle.loom_engine.specs.declared.rt.path.node.Node.TheVariants as node
use Rattle.loom_engine.specs.Path.Nodes.{seen}
use Rattle.loom_engine.specs.Path.Route.{Route}
use Rattle.loom_objects.specs.Tree.Asked.{which_thread}
use Rattle.loom_engine.specs.contracts.rt.path.Path.{the_view}
use Rattle.loom_engine.proofs.Path.Nodes.Paths.{end_of, follows_there, passed_on, differs_there}
use Rattle.loom_engine.proofs.rt.path.Path.branch_thread.Goals as goal

pub stored_schedule-requires : goal.stored_schedule-requires
stored_schedule-requires c = omega arith

pub make_thread-requires-clause-past : goal.make_thread-requires-clause-past
make_thread-requires-clause-past c =
    sym (end_of (the_view c.self.inside) c.args.self.now c.self.view_is c.self.invariant.0 (omega arith))

pub pass-requires-clause-stands : goal.pass-requires-clause-stands
pass-requires-clause-stands c =
    let n : Node = node.Schedule c.in-Ok.schedule in
    subst (λ (r : Route). slice_get r.nodes r.position ≡ Some n) c.self.view_is (c.in-Ok.ensures []).0

pub pass-requires-clause-chosen : goal.pass-requires-clause-chosen
pass-requires-clause-chosen c = ap Thread (c.active-chosen.ensures.lowest c.in-Ok.schedule (c.in-Ok.ensures []).0)

pub returns-in-Err-clause-says : goal.returns-in-Err-clause-says
returns-in-Err-clause-says c = λ places.
    let p : Route = the_view c.self.inside in
    let on : c.is_exploring-exploring.result ≡ is_on p.exploring = c.is_exploring-exploring.ensures ∙ ap (λ (r : Route). is_on r.exploring) (sym c.self.view_is) in
    rw ((c.in-Err.ensures places).0, ← c.self.view_is) (
      differs_there p (which_thread (is_on p.exploring) c.args.offers.now places)
          (subst (λ b. IsSomeAnd (slice_get p.nodes p.position) (λ n. (seen n).made ≢ made_of (which_thread b c.args.offers.now places))) on (c.in-Err.ensures places).1),
      refl,
    )

pub returns-in-Ok-clause-says : goal.returns-in-Ok-clause-says
returns-in-Ok-clause-says c = λ places.
    let p : Route = the_view c.self.inside in
    let n : Node = node.Schedule c.in-Ok.schedule in
    let question : Question = which_thread (is_on c.args.self.now.exploring) c.args.offers.now places in
    passed_on p c.args.self.now question (Thread c.active-chosen.result) c.pass.new.self c.self.view_is
    (follows_there p question n (Thread c.active-chosen.result) (c.in-Ok.ensures []).0 ((c.in-Ok.ensures places).1 ∙ ap (λ b. made_of (which_thread b c.args.offers.now places)) c.is_exploring-exploring.ensures) (ap Thread (c.active-chosen.ensures.lowest c.in-Ok.schedule (c.in-Ok.ensures []).0)))
    c.pass.ensures
