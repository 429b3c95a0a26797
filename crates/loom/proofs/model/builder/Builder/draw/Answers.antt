use Rattle.std.proofs.Common.{◌∙◌, [], Bool, ap, ap₂, refl, sym}
use Rattle.loom_objects.specs.Exploring.{initially}
use Rattle.loom_engine.specs.Path.Route.{Route, at_rest}
use Rattle.loom_engine.specs.Runs.Body.{runs}
use Rattle.loom_engine.specs.Trees.Meeting.{Settings}
use Rattle.loom_engine.proofs.Runs.Bodies.{run_tree_law}
use Rattle.loom.specs.Model.Settings.{explores}
use Rattle.loom.proofs.ModelLemmas.Walking.{at_rest_drawn, drawn_ends}
use Rattle.loom.proofs.model.builder.Builder.draw.Goals as goal

pub draw_run-requires-clause-starts : goal.draw_run-requires-clause-starts
draw_run-requires-clause-starts g c =
    let is = c.restart.ensures in
    (ap (λ (r : Route). r.position) is, refl, ap (λ (r : Route). r.exploring) is ∙ ap (λ (b : Bool). initially b) (sym (ap (λ (r : Route). r.explores) is)))

pub draw_run-requires-clause-drawn : goal.draw_run-requires-clause-drawn
draw_run-requires-clause-drawn g c = at_rest_drawn c.args.self.now.max_branches c.args.path.now c.restart.new.self c.restart.ensures c.requires.search

pub returns-clause-drawn : goal.returns-clause-drawn
returns-clause-drawn g c =
    let b = c.args.self.now in
    let is = c.restart.ensures in
    let whole = is ∙ ap₂ (λ (s : Settings) (e : Bool). at_rest s e []) c.requires.search c.requires.explores in
    let along = rw (ap (λ (r : Route). r.explores) whole, c.limits.ensures.threads, c.limits.ensures.steps) at c.draw_run.ensures.along in
    drawn_ends (explores b) b.max_branches (runs g.B.Body.next (explores b) b.max_threads b.max_steps c.args.body.now) c.restart.new.self c.draw_run.new.path c.draw_run.result
    (run_tree_law g.B.Body.next (explores b) b.max_threads b.max_steps c.args.body.now) whole along c.draw_run.ensures.located
