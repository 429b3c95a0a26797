use Rattle.std.proofs.Common.{[], refl}
use Rattle.loom_engine.specs.Path.Drawn.{led_by}
use Rattle.loom_engine.specs.Path.Route.{chosen, trail}
use Rattle.loom_engine.specs.Runs.Course.{opening}
use Rattle.loom.specs.Explain.Story.{story_of}
use Rattle.loom.proofs.ExplainLemmas.Turning.{begins}
use Rattle.loom.proofs.ModelLemmas.Drawing.{runs_drawn}
use Rattle.loom.proofs.model.run.drawing.draw_run.Goals as goal

pub returns-clause-along : goal.returns-clause-along
returns-clause-along g c =
    let given = chosen c.draw_turns.new.path in
    let path = led_by given c.args.path.now in
    runs_drawn c.args.path.now.search g.B.Body.next c.args.path.now.explores c.args.limits.max_threads c.args.limits.max_steps c.args.body.now c.args.path.now c.draw_turns.new.path c.draw_turns.result refl
    (c.draw_turns.ensures.comes (story_of path.search g.B.Body.next path.explores c.args.limits.max_threads c.args.limits.max_steps c.args.body.now (trail path))
    (begins g.B.Body.next [] c.begin.new.bodies.items c.restart.new.self.run path c.args.body.now
    (opening c.args.path.now.explores c.args.limits.max_threads c.args.limits.max_steps) refl
    c.in_ok-begin.ensures
    (c.in_ok-restart.ensures.opens c.args.path.now.explores path c.requires.starts)))
