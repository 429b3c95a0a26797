use Rattle.std.proofs.Common.{◌≡◌, ◌++◌, Bool, Some, ap, subst}
use Rattle.std.specs.Prelude.{IfSome, slice_get}
use Rattle.loom_engine.specs.Covering.Kept.{Noted, state_in}
use Rattle.loom_engine.proofs.Covering.Adding.{found_behind, found_first}
use Rattle.loom_engine.proofs.rt.states.States.find_beside.Goals as goal

pub returns-in-Some : goal.returns-in-Some
returns-in-Some g c =
    let same : c.self.inside.never_switches ≡ c.args.self.now.never = ap (λ (n : Noted _ _). n.never) c.self.view_is in
    subst (λ (never : Bool). slice_get (c.args.known.now.states ++ c.args.self.now.states) c.in-Some.number ≡ Some (state_in never c.args.execution.now.run c.args.bodies.now c.args.views.now)) same
    (found_first c.args.known.now.states c.args.self.now.states c.in-Some.number _ c.in-Some.ensures)

pub returns : goal.returns
returns g c =
    let same : c.self.inside.never_switches ≡ c.args.self.now.never = ap (λ (n : Noted _ _). n.never) c.self.view_is in
    subst (λ (never : Bool). IfSome c.checked_add.result (λ number. slice_get (c.args.known.now.states ++ c.args.self.now.states) number ≡ Some (state_in never c.args.execution.now.run c.args.bodies.now c.args.views.now))) same
    (found_behind c.args.known.now.states c.args.self.now.states c.len.result c.in_ok-number.number _ _ c.checked_add.result c.len.ensures c.in_ok-number.ensures c.checked_add.ensures)
