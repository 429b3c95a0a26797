use Rattle.std.proofs.Common.{◌≡◌, ◌≤◌, List, [], ◌∷◌, ◌++◌, length, take, ap, sym, ◌∙◌, subst}
use Rattle.loom_engine.specs.declared.rt.path.node.Node.{Node}
use Rattle.loom_engine.specs.contracts.rt.path.Path.{the_view}
use Rattle.loom_engine.specs.Path.Nodes.{AreWell}
use Rattle.loom_engine.specs.Path.Tallies.{AreNoted}
use Rattle.loom_engine.proofs.Path.Fitting.{well_fit}
use Rattle.loom_engine.proofs.Parts.Branching.{opens_inside, branch_fits, branch_well, branch_noted}
use Rattle.loom_engine.proofs.rt.path.Path.branch_off.Goals as goal

pub push-requires : goal.push-requires
push-requires c = record { fit = well_fit c.args.opening.now.node c.requires.2.gone_on.well }

pub resting-requires-clause-fits : goal.resting-requires-clause-fits
resting-requires-clause-fits c =
    let p = c.self.inside in
    let o = c.args.opening.now in
    let opens = opens_inside (the_view p) c.args.self.now o c.self.view_is c.requires in
    let items : c.push.new.self ≡ take c.args.opening.now.place c.self.inside.nodes.list ++ c.args.opening.now.node ∷ [] =
    c.in_ok-push.ensures.made ∙ ap (λ (l : List Node). l ++ c.args.opening.now.node ∷ []) (c.truncate.ensures ∙ ap (take c.args.opening.now.place) c.in_ok-list.ensures) in
    subst (λ (l : List Node). length l ≤ c.self.inside.search.max_branches) (sym items) (branch_fits p.nodes.list o p.search.max_branches opens c.self.invariant.1)

pub resting-requires-clause-well : goal.resting-requires-clause-well
resting-requires-clause-well c =
    let p = c.self.inside in
    let o = c.args.opening.now in
    let opens = opens_inside (the_view p) c.args.self.now o c.self.view_is c.requires in
    let items : c.push.new.self ≡ take c.args.opening.now.place c.self.inside.nodes.list ++ c.args.opening.now.node ∷ [] =
    c.in_ok-push.ensures.made ∙ ap (λ (l : List Node). l ++ c.args.opening.now.node ∷ []) (c.truncate.ensures ∙ ap (take c.args.opening.now.place) c.in_ok-list.ensures) in
    subst AreWell (sym items) (branch_well p.nodes.list o opens c.self.invariant.2)

pub resting-requires-clause-noted : goal.resting-requires-clause-noted
resting-requires-clause-noted c =
    let p = c.self.inside in
    let o = c.args.opening.now in
    let opens = opens_inside (the_view p) c.args.self.now o c.self.view_is c.requires in
    let items : c.push.new.self ≡ take c.args.opening.now.place c.self.inside.nodes.list ++ c.args.opening.now.node ∷ [] =
    c.in_ok-push.ensures.made ∙ ap (λ (l : List Node). l ++ c.args.opening.now.node ∷ []) (c.truncate.ensures ∙ ap (take c.args.opening.now.place) c.in_ok-list.ensures) in
    subst AreNoted (sym items) (branch_noted p.nodes.list o opens c.self.invariant.3)
