use Rattle.std.proofs.Common.{[], refl}
use Rattle.loom_engine.specs.Path.Route.{trail}
use Rattle.loom_engine.specs.Runs.Course.{opening}
use Rattle.loom.specs.Explain.Story.{story_of}
use Rattle.loom.proofs.ExplainLemmas.Turning.{begins, heard_along}
use Rattle.loom.proofs.model.run.run.Goals as goal

pub returns-clause-heard : goal.returns-clause-heard
returns-clause-heard g c =
    c.take_turns.ensures.heard (story_of c.args.path.now.search g.B.Body.next c.args.path.now.explores c.args.limits.max_threads c.args.limits.max_steps c.args.body.now (trail c.args.path.now))
    (begins g.B.Body.next [] c.begin.new.bodies.items c.restart.new.self.run c.args.path.now c.args.body.now
    (opening c.args.path.now.explores c.args.limits.max_threads c.args.limits.max_steps) refl
    c.in_ok-begin.ensures
    (c.in_ok-restart.ensures.opens c.args.path.now.explores c.args.path.now c.requires.starts))

pub returns-clause-along : goal.returns-clause-along
returns-clause-along g c =
    heard_along g.L.Listener.takes_reply g.L.Listener.takes_op c.args.path.now.search g.B.Body.next c.args.path.now.explores c.args.limits.max_threads c.args.limits.max_steps c.args.body.now c.args.path.now
    c.args.listener.now c.take_turns.new.listener c.take_turns.result c.take_turns.new.path refl
    (c.take_turns.ensures.heard (story_of c.args.path.now.search g.B.Body.next c.args.path.now.explores c.args.limits.max_threads c.args.limits.max_steps c.args.body.now (trail c.args.path.now))
    (begins g.B.Body.next [] c.begin.new.bodies.items c.restart.new.self.run c.args.path.now c.args.body.now
    (opening c.args.path.now.explores c.args.limits.max_threads c.args.limits.max_steps) refl
    c.in_ok-begin.ensures
    (c.in_ok-restart.ensures.opens c.args.path.now.explores c.args.path.now c.requires.starts)))
