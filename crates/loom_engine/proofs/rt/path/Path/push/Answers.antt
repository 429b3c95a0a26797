use Rattle.std.proofs.Common.{◌≡◌, ◌≤◌, ◌<◌, length, length-append, [], ◌∷◌, ap, subst, sym, arith}
use Rattle.loom_engine.specs.Path.Nodes.{AreWell}
use Rattle.loom_engine.specs.Path.Route.{Route}
use Rattle.loom_engine.specs.Path.Tallies.{IsNotedAt, AreNoted, IsTally}
use Rattle.loom_engine.proofs.Path.Nodes.Paths.{well_more}
use Rattle.loom_engine.proofs.Nodes.Notes.{noted_more, tally_kept}
use Rattle.loom_engine.proofs.Path.Fitting.{well_fit}
use Rattle.loom_engine.proofs.rt.path.Path.push.Goals as goal

pub push-requires : goal.push-requires
push-requires c = well_fit c.args.node c.requires.well

pub invariant_of-self-2 : goal.invariant_of-self-2
invariant_of-self-2 c =
    let p = c.self.inside in
    let nodes = p.nodes.list in
    let past : length nodes ≤ p.nodes.position = subst (λ (r : Route). length r.nodes ≤ r.position) (sym c.self.view_is) c.requires.past in
    let room : p.nodes.position < p.search.max_branches = subst (λ (r : Route). r.position < r.search.max_branches) (sym c.self.view_is) c.requires.room in
    let noted : IsNotedAt nodes p.nodes.position c.args.node = subst (λ (r : Route). IsNotedAt r.nodes r.position c.args.node) (sym c.self.view_is) c.requires.noted in
    let last : p.nodes.position ≡ length nodes = omega (arith, c.self.invariant.0) in
    let items = c.in_ok-push.ensures.made in
    let at : c.push.new.self.position ≡ p.nodes.position = c.in_ok-push.ensures.position in (
      omega (arith, at, ap length items, length-append nodes (c.args.node ∷ []), c.self.invariant.0),
      omega (arith, ap length items, length-append nodes (c.args.node ∷ [])),
      subst AreWell (sym items) (well_more nodes c.args.node c.self.invariant.2 c.requires.well),
      subst AreNoted (sym items) (noted_more nodes c.args.node c.self.invariant.3 (subst (λ j. IsNotedAt nodes j c.args.node) last noted)),
      subst (λ k. IsTally c.push.new.self.list k p.tally) (sym at) (subst (λ l. IsTally l p.nodes.position p.tally) (sym items) (tally_kept nodes c.args.node p.nodes.position p.tally c.self.invariant.0 c.self.invariant.4)),
    )
