use Rattle.std.proofs.Common.{◌≡◌, ℕ, zero, suc, List, [], ◌∷◌, length, Some, refl, ap, sym, subst, ◌∙◌, arith}
use Rattle.std.specs.Prelude.{slice_get, slice_set}
use Rattle.std.proofs.lemmas.List.{length-set}
use Rattle.loom_engine.specs.declared.rt.path.node.Node.TheVariants as node
use Rattle.loom_engine.specs.declared.rt.path.node.Node.{Node}
use Rattle.loom_engine.specs.declared.rt.path.node.Schedule.{Schedule}
use Rattle.loom_engine.specs.Path.Nodes.{stored, AreWell}
use Rattle.loom_engine.specs.Path.Route.{Route}
use Rattle.loom_engine.specs.Path.Tallies.{AreNoted, IsTally}
use Rattle.loom_engine.specs.contracts.rt.path.Path.{the_view}
use Rattle.loom_engine.proofs.Nodes.Nodes.Fronts.{well_set}
use Rattle.loom_engine.proofs.Path.Fitting.{well_fit}
use Rattle.loom_engine.proofs.Path.Marking.Added.{passed_within, nothing_else, here, rests, adds, switch}
use Rattle.loom_engine.proofs.Path.Marking.Noted.{noted_set, tally_set, same_pass}
use Rattle.loom_engine.proofs.rt.path.Path.add.Goals as goal

pub get-requires : goal.get-requires
get-requires c = passed_within (the_view c.self.inside) c.args.self.now c.self.view_is c.args.place c.requires

pub returns-in_default : goal.returns-in_default
returns-in_default c =
    absurd (nothing_else (the_view c.self.inside) c.args.self.now c.self.view_is c.args.place c.requires c.get.result c.get.ensures c.in_default.not-Schedule)

pub add_off_bound-requires : goal.add_off_bound-requires
add_off_bound-requires c =
    rests (the_view c.self.inside) c.args.self.now c.self.view_is c.args.place c.requires c.get.result c.get.ensures c.in-Schedule.schedule c.in-Schedule.is c.self.invariant.2

pub set-requires-clause-within : goal.set-requires-clause-within
set-requires-clause-within c = passed_within (the_view c.self.inside) c.args.self.now c.self.view_is c.args.place c.requires

pub set-requires-clause-fit : goal.set-requires-clause-fit
set-requires-clause-fit c = well_fit (node.Schedule c.add_off_bound.new.schedule) (c.add_off_bound.ensures.rests, c.are_five.ensures)

pub invariant_of-self : goal.invariant_of-self
invariant_of-self c =
    let p : Route = the_view c.self.inside in
    let old = c.in-Schedule.schedule in
    let new = c.add_off_bound.new.schedule in
    let is = here p c.args.self.now c.self.view_is c.args.place c.requires c.get.result c.get.ensures old c.in-Schedule.is in
    let same = same_pass p.search.bound c.args.thread old new c.add_off_bound.ensures.added c.add_off_bound.ensures.same in
    let size = ap length c.set.ensures ∙ length-set p.nodes c.args.place (node.Schedule new) in (
      omega (arith, size, c.self.invariant.0),
      omega (arith, size, c.self.invariant.1),
      subst AreWell (sym c.set.ensures) (well_set p.nodes c.args.place (node.Schedule new) c.self.invariant.2 (c.add_off_bound.ensures.rests, c.are_five.ensures)),
      subst AreNoted (sym c.set.ensures) (noted_set p.nodes c.args.place old new is same c.add_off_bound.ensures.noted c.self.invariant.3),
      subst (λ l. IsTally l p.position c.self.inside.tally) (sym c.set.ensures) (tally_set p.nodes c.args.place old new is same p.position c.self.inside.tally c.self.invariant.4),
    )

-- the node that is there is set there again
set_here : (nodes : List Node) (k : ℕ) (n : Node) → slice_get nodes k ≡ Some n → slice_set nodes k n ≡ nodes
set_here [] k n e = refl
set_here (x ∷ nodes) zero n e = (let same : x ≡ n = cc e in ap (λ (y : Node). y ∷ nodes) (sym same))
set_here (x ∷ nodes) (suc k) n e = ap (λ (l : List Node). x ∷ l) (set_here nodes k n e)

pub returns-then-not-add_off_bound-clause-added : goal.returns-then-not-add_off_bound-clause-added
returns-then-not-add_off_bound-clause-added c =
    let p : Route = the_view c.self.inside in
    let old = c.in-Schedule.schedule in
    let new = c.add_off_bound.new.schedule in
    let is = here p c.args.self.now c.self.view_is c.args.place c.requires c.get.result c.get.ensures old c.in-Schedule.is in
    let added = adds p c.args.self.now c.self.view_is c.args.place c.requires c.get.result c.get.ensures old c.in-Schedule.is
    c.args.thread new c.self.invariant.3 c.add_off_bound.ensures.added c.add_off_bound.ensures.same in
    let kept : slice_set p.nodes c.args.place (node.Schedule new) ≡ c.args.self.now.nodes =
    ap (λ (s : Schedule). slice_set p.nodes c.args.place (node.Schedule s)) (c.if-not-add_off_bound.ensures.unchanged refl)
    ∙ set_here p.nodes c.args.place (node.Schedule old) is ∙ ap (λ (r : Route). r.nodes) c.self.view_is in
    (ap stored (sym kept) ∙ added.0, refl)

pub returns-then-not-add_off_bound-clause-switch : goal.returns-then-not-add_off_bound-clause-switch
returns-then-not-add_off_bound-clause-switch c =
    c.add_off_bound.ensures.noted.1
    ∙ switch (the_view c.self.inside) c.args.self.now c.self.view_is c.args.place c.requires c.get.result c.get.ensures c.in-Schedule.schedule c.in-Schedule.is c.self.invariant.3

pub returns-clause-added : goal.returns-clause-added
returns-clause-added c =
    let p : Route = the_view c.self.inside in
    let new = c.add_off_bound.new.schedule in
    let added = adds p c.args.self.now c.self.view_is c.args.place c.requires c.get.result c.get.ensures c.in-Schedule.schedule c.in-Schedule.is
    c.args.thread new c.self.invariant.3 c.add_off_bound.ensures.added c.add_off_bound.ensures.same in
    rw c.set.ensures (added.0, ap (λ (r : Route). record r { nodes = slice_set p.nodes c.args.place (node.Schedule new) }) c.self.view_is)

pub returns-clause-switch : goal.returns-clause-switch
returns-clause-switch c =
    c.add_off_bound.ensures.noted.1
    ∙ switch (the_view c.self.inside) c.args.self.now c.self.view_is c.args.place c.requires c.get.result c.get.ensures c.in-Schedule.schedule c.in-Schedule.is c.self.invariant.3
