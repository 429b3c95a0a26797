-- A path that branches off at an opening.
use Rattle.std.proofs.Common.{◌≡◌, ◌≤◌, ◌<◌, ℕ, List, [], ◌∷◌, ◌++◌, length, take, Some, ap, sym, ◌∙◌, subst, arith, length-append}
use Rattle.std.specs.Prelude.{slice_get, Option, None, IfSome}
use Rattle.loom_engine.specs.declared.rt.path.node.Node.{Node}
use Rattle.loom_engine.specs.declared.rt.path.opening.Opening.{Opening}
use Rattle.loom_engine.specs.Path.Nodes.{AreWell, IsWell}
use Rattle.loom_engine.specs.Path.Route.{Route}
use Rattle.loom_engine.specs.Path.Tallies.{IsNoted, AreNoted, passes_to}
use Rattle.loom_engine.specs.Parts.Openings.{OpensAt}
use Rattle.loom_engine.proofs.Nodes.Marking.Nearest.{front_length}
use Rattle.loom_engine.proofs.Nodes.Nodes.Fronts.{well_front}
use Rattle.loom_engine.proofs.Nodes.Notes.{node_within, noted_front, noted_more, passes_front}
use Rattle.loom_engine.proofs.Path.Marking.Noted.{well_got}
use Rattle.loom_engine.proofs.Path.Nodes.Paths.{well_more}

-- the opening as callers see the path
pub opens_inside : (path : Route) (now : Route) (opening : Opening) → path ≡ now → OpensAt now.nodes opening → OpensAt path.nodes opening
opens_inside path now opening e h = subst (λ (r : Route). OpensAt r.nodes opening) (sym e) h

pub branch_place : (nodes : List Node) (opening : Opening) → OpensAt nodes opening → opening.place < length nodes
branch_place nodes opening h = node_within nodes opening.place h.0 h.1

front_size : (nodes : List Node) (opening : Opening) → OpensAt nodes opening → length (take opening.place nodes) ≡ opening.place
front_size nodes opening h = let i = branch_place nodes opening h in front_length nodes opening.place (omega (arith, i))

pub branch_fits : (nodes : List Node) (opening : Opening) (most : ℕ) → OpensAt nodes opening → length nodes ≤ most → length (take opening.place nodes ++ opening.node ∷ []) ≤ most
branch_fits nodes opening most h l =
    let i = branch_place nodes opening h in
    let j = front_size nodes opening h in
    let k = length-append (take opening.place nodes) (opening.node ∷ []) in
    omega (arith, i, j, k, l)

pub branch_well : (nodes : List Node) (opening : Opening) → OpensAt nodes opening → AreWell nodes → AreWell (take opening.place nodes ++ opening.node ∷ [])
branch_well nodes opening h w = well_more (take opening.place nodes) opening.node (well_front nodes opening.place w) h.2.gone_on.well

pub branch_noted : (nodes : List Node) (opening : Opening) → OpensAt nodes opening → AreNoted nodes → AreNoted (take opening.place nodes ++ opening.node ∷ [])
branch_noted nodes opening h noted =
    let size = front_size nodes opening h in
    let here : IsNoted opening.place (passes_to opening.place nodes) opening.node = h.2.gone_on.noted opening.place (passes_to opening.place nodes) (noted opening.place h.0 h.1) in
    noted_more (take opening.place nodes) opening.node (noted_front nodes opening.place noted)
    (subst (λ k. IsNoted k (passes_to k (take opening.place nodes)) opening.node) (sym size)
    (subst (λ l. IsNoted opening.place l opening.node) (sym (passes_front opening.place opening.place nodes (omega arith))) here))

-- a node of a path is well
pub some_well : (path now : Route) (place : ℕ) (found : Option Node) → path ≡ now → found ≡ slice_get now.nodes place → AreWell path.nodes → IfSome found IsWell
some_well path now place None e f w = tt
some_well path now place (Some n) e f w = well_got path.nodes place n (ap (λ (r : Route). slice_get r.nodes place) e ∙ sym f) w
