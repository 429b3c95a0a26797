use Rattle.std.proofs.Common.{Bool, List, sym, ap, ◌∙◌, subst}
use Rattle.serde_json.specs.View.{view}
use Rattle.loom_engine.specs.Trees.Meeting.{Settings}
use Rattle.loom_engine.specs.declared.rt.path.node.Node.{Node}
use Rattle.loom_engine.specs.Path.Route.{Route, at_rest, settings}
use Rattle.loom_engine.specs.Checkpoint.Accepted.{IsPathOf}
use Rattle.loom_engine.proofs.Checkpoint.ShapeLaws.{same_nodes}
use Rattle.loom_engine.proofs.rt.path.checkpoint.value.reread.Goals as goal

pub returns-in-Ok-from_value-clause-same : goal.returns-in-Ok-from_value-clause-same
returns-in-Ok-from_value-clause-same c =
    let p : Route = c.args.path.now in
    let found = c.search.result in
    let d = view c.in-Ok.value in
    let written : IsPathOf p.search p.explores d p.nodes = record { value = c.in-Ok.ensures.value; fits = c.in-Ok.ensures.fits; well_formed = c.requires } in
    let given : IsPathOf (settings found) found.explores d p.nodes =
    subst (λ (s : Settings). IsPathOf s found.explores d p.nodes) (sym c.search.ensures.settings)
    (subst (λ (e : Bool). IsPathOf p.search e d p.nodes) (sym c.search.ensures.explores) written) in
    let read : Route = c.in-Ok-from_value.read in
    let ok = c.in-Ok-from_value.ensures.ok in
    ok.0
    ∙ ap (λ (l : List Node). at_rest (settings found) found.explores l) (c.notes_follow.ensures (same_nodes (settings found) found.explores d read.nodes p.nodes ok.1 given))
    ∙ ap (λ (s : Settings). at_rest s found.explores p.nodes) c.search.ensures.settings
    ∙ ap (λ (e : Bool). at_rest p.search e p.nodes) c.search.ensures.explores
