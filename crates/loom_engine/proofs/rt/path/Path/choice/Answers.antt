use Rattle.std.proofs.Common.{◌≡◌, ◌<◌, ℕ, zero, suc, List, [], ◌∷◌, take, Some, refl, sym, subst, ◌∙◌, arith}
use Rattle.std.specs.Prelude.{slice_get}
use Rattle.std.specs.Option.{option_map}
use Rattle.loom_engine.specs.Path.Route.{Route, chosen, stored}
use Rattle.loom_engine.specs.Walk.Path.{Stored, choices}
use Rattle.loom_engine.specs.contracts.rt.path.Path.{the_view}
use Rattle.loom_engine.specs.declared.rt.path.node.Node.{Node}
use Rattle.loom_engine.proofs.rt.path.Path.choice.Goals as goal

chosen_at : (n k : ℕ) (nodes : List Node) → k < n → slice_get (choices (take n (stored nodes))) k ≡ option_map (λ (x : Stored). x.present) (slice_get (stored nodes) k)
chosen_at zero k nodes h = absurd (omega arith)
chosen_at (suc n) k [] h = refl
chosen_at (suc n) zero (x ∷ nodes) h = refl
chosen_at (suc n) (suc k) (x ∷ nodes) h = chosen_at n k nodes (omega arith)

pub choice-requires : goal.choice-requires
choice-requires c =
    let within : c.args.place < (the_view c.self.inside).position = subst (λ (r : Route). c.args.place < r.position) (sym c.self.view_is) c.requires in
    omega (arith, c.self.invariant.0)

pub returns : goal.returns
returns c =
    let p : Route = the_view c.self.inside in
    let within : c.args.place < p.position = subst (λ (r : Route). c.args.place < r.position) (sym c.self.view_is) c.requires in
    subst (λ (r : Route). slice_get (chosen r) c.args.place ≡ Some c.choice.result) c.self.view_is (chosen_at p.position c.args.place p.nodes within ∙ c.choice.ensures)
