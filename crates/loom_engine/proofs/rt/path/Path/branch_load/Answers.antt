use Rattle.std.proofs.Common.{◌≡◌, ◌≤◌, length, Some, refl, ap, ◌∙◌, subst, arith}
use Rattle.loom_objects.specs.declared.choice.Choice.TheVariants.{Load}
use Rattle.loom_engine.specs.Path.Route.{Route, choice_here}
use Rattle.loom_engine.specs.Path.Tallies.{IsValueAt}
use Rattle.loom_engine.specs.contracts.rt.path.Path.{the_view}
use Rattle.loom_engine.proofs.Path.Nodes.Paths.{no_choice, past_end, value_chosen}
use Rattle.loom_engine.proofs.rt.path.Path.branch_load.Goals as goal

pub returns-then-self-len : goal.returns-then-self-len
returns-then-self-len c =
    let p : Route = c.args.self.now in
    let held : length (the_view c.self.inside).nodes ≤ (the_view c.self.inside).position = omega arith in
    let past : length p.nodes ≤ p.position = past_end (the_view c.self.inside) p c.self.view_is held in
    rw c.failed.ensures (λ slot e. cc (no_choice p past, e), refl, refl)

pub returns-in_default : goal.returns-in_default
returns-in_default c =
    let here : choice_here c.args.self.now ≡ Some c.choice.result = subst (λ (r : Route). choice_here r ≡ Some c.choice.result) c.self.view_is c.choice.ensures in
    rw c.failed-in_default.ensures (λ slot e. c.in_default.not-Load slot (let is : c.choice.result ≡ Load slot = cc (here, e) in is), refl, refl)

pub pass_value-requires : goal.pass_value-requires
pass_value-requires c =
    let p : Route = the_view c.self.inside in
    subst (λ (r : Route). IsValueAt r.nodes r.position) c.self.view_is (value_chosen p.nodes p.position c.in-Load.slot (c.choice.ensures ∙ ap Some c.in-Load.is))

pub returns : goal.returns
returns c =
    let here : choice_here (the_view c.self.inside) ≡ Some (Load c.in-Load.slot) = c.choice.ensures ∙ ap Some c.in-Load.is in
    (subst (λ (r : Route). choice_here r ≡ Some (Load c.in-Load.slot)) c.self.view_is here, c.pass_value.ensures)
