use Rattle.std.proofs.Common.{[], ◌∷◌, refl}
use Rattle.loom_engine.specs.Path.Route.{trail}
use Rattle.loom_engine.specs.Runs.Course.{opening}
use Rattle.loom.specs.Explain.Story.{story_of}
use Rattle.loom.specs.Runner.Recorded.{by_function}
use Rattle.loom.proofs.ExplainLemmas.Turning.{begins}
use Rattle.loom.proofs.RunnerLemmas.Playing.{known_run, known_runs}
use Rattle.loom.proofs.RunnerLemmas.Recorded.{main_alone}
use Rattle.loom.proofs.runner.recorded.playing.play.Goals as goal

pub returns-clause-along : goal.returns-clause-along
returns-clause-along g c = λ does words z.
    let path = c.args.path.now in
    let limits = c.args.limits in
    known_runs does limits path c.take_turns.new.path c.take_turns.result
    (c.take_turns.ensures.ends does words ([] ∷ []) (story_of path.search (by_function does) path.explores limits.max_threads limits.max_steps [] (trail path)) z
    (main_alone does words c.args.recording.now c.clear.new.self.items c.push.new.self.items z c.in_ok-push.ensures.items c.clear.ensures.items)
    (begins (by_function does) [] ([] ∷ []) c.restart.new.self.run path [] (opening path.explores limits.max_threads limits.max_steps) refl refl (c.in_ok-restart.ensures.opens path.explores path c.requires.starts)))

pub returns-clause-history : goal.returns-clause-history
returns-clause-history g c =
    let path = c.args.path.now in
    known_run c.args.limits c.restart.new.self path c.take_turns.new.path c.take_turns.result c.in_ok-restart.ensures.over
    (c.in_ok-restart.ensures.opens path.explores path c.requires.starts) c.take_turns.ensures.history
