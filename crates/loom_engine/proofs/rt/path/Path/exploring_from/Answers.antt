use Rattle.std.proofs.Common.{ap, subst, ◌∙◌}
use Rattle.loom_engine.specs.Trees.Drive.{passes_of}
use Rattle.loom_engine.specs.Path.Route.{trail}
use Rattle.loom_engine.specs.Path.Marks.{IsNearest}
use Rattle.loom_engine.proofs.Nodes.Notes.{noted_front}
use Rattle.loom_engine.proofs.Nodes.Marking.Nearest.{passes_taken}
use Rattle.loom_engine.proofs.rt.path.Path.exploring_from.Goals as goal

pub exploring_in-requires-clause-noted : goal.exploring_in-requires-clause-noted
exploring_in-requires-clause-noted c = noted_front c.self.inside.nodes.list c.self.inside.nodes.position c.self.invariant.3

pub returns : goal.returns
returns c =
    let p = c.self.inside in
    subst (λ l. IsNearest l c.args.place c.exploring_in.result) (passes_taken p.nodes.position p.nodes.list ∙ ap (λ r. passes_of (trail r)) c.self.view_is) c.exploring_in.ensures
