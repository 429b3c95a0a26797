use Rattle.std.proofs.Common.{◌≡◌, ◌<◌, ℕ, length, slice_index, refl, ap, sym, ◌∙◌, arith}
use Rattle.loom_objects.specs.Exploring.{is_on}
use Rattle.loom_objects.specs.Tree.Question.{made_of}
use Rattle.loom_objects.specs.Tree.Stores.{slots, which_store}
use Rattle.loom_engine.specs.declared.rt.path.node.Load.{Load}
use Rattle.loom_engine.specs.declared.rt.path.node.Node.{Node}
use Rattle.loom_engine.specs.declared.rt.path.node.Node.TheVariants as node
use Rattle.loom_engine.specs.Path.Nodes.{seen}
use Rattle.loom_engine.specs.Path.Route.{Route}
use Rattle.loom_engine.specs.contracts.rt.path.Path.{the_view}
use Rattle.loom_engine.proofs.Nodes.Nodes.Slots.{some_slot, load_readable}
use Rattle.loom_engine.proofs.Path.Nodes.Paths.{well_at, end_of, follows, differs, choice_stored}
use Rattle.loom_engine.proofs.rt.path.Path.push_load.Goals as goal

pub meets-requires-clause-well : goal.meets-requires-clause-well
meets-requires-clause-well c =
    let p : Route = the_view c.self.inside in
    (well_at p.nodes p.position (node.Load c.in-Load.load) (omega arith) c.in-Load.ensures c.self.invariant.2).0

pub returns-then-not-meets-clause-pushes : goal.returns-then-not-meets-clause-pushes
returns-then-not-meets-clause-pushes c =
    let p : Route = the_view c.self.inside in
    let n : Node = node.Load c.in-Load.load in
    let on : c.is_exploring-exploring.result ≡ is_on p.exploring = c.is_exploring-exploring.ensures ∙ ap (λ (r : Route). is_on r.exploring) (sym c.self.view_is) in
    rw (c.failed-then-not-meets.ensures, ← c.self.view_is) (
      differs p (which_store (is_on p.exploring) c.args.readable.now) n (omega arith) c.in-Load.ensures
          (λ e. let met = c.if-not-meets.ensures.1 (e ∙ ap (λ b. made_of (which_store b c.args.readable.now)) (sym on)) in cc met),
      refl,
    )

pub returns-then-self-len-clause-pushes : goal.returns-then-self-len-clause-pushes
returns-then-self-len-clause-pushes c =
    let p : Route = the_view c.self.inside in
    let n : Node = node.Load c.in-Load.load in
    let inside : p.position < length p.nodes = omega arith in
    let on : c.is_exploring-exploring.result ≡ is_on p.exploring = c.is_exploring-exploring.ensures ∙ ap (λ (r : Route). is_on r.exploring) (sym c.self.view_is) in
    rw (← c.self.view_is) (
      (seen n).present,
      choice_stored p n inside c.in-Load.ensures,
      follows p (which_store (is_on p.exploring) c.args.readable.now) n (seen n).present inside c.in-Load.ensures (c.if-not-meets.ensures.0 refl ∙ ap (λ b. made_of (which_store b c.args.readable.now)) on) refl,
    )

pub returns-then-self-len-clause-readable : goal.returns-then-self-len-clause-readable
returns-then-self-len-clause-readable c =
    let p : Route = the_view c.self.inside in
    let load : Load = c.in-Load.load in
    let slot : ℕ = slice_index (slots load.readable) load.position in
    let inside : p.position < length p.nodes = omega arith in
    rw (← c.self.view_is) (
      slot,
      choice_stored p (node.Load load) inside c.in-Load.ensures,
      load_readable load.exploring c.is_exploring-exploring.result load.readable c.args.readable.now load.position slot
          (well_at p.nodes p.position (node.Load load) inside c.in-Load.ensures c.self.invariant.2).0
          (some_slot c.args.readable.now c.requires.some) refl (c.if-not-meets.ensures.0 refl),
    )

pub make_load-requires-clause-past : goal.make_load-requires-clause-past
make_load-requires-clause-past c =
    sym (end_of (the_view c.self.inside) c.args.self.now c.self.view_is c.self.invariant.0 (omega arith))
