use Rattle.std.proofs.Common.{[], ◌∷◌, List, refl}
use Rattle.loom.specs.Model.Cover.{Noting, noting}
use Rattle.loom.specs.Runner.Recorded.{Word, by_function}
use Rattle.loom.specs.Runner.Recording.{all_told}
use Rattle.loom.proofs.ModelLemmas.Covering.{begins_so, starts_so}
use Rattle.loom.proofs.RunnerLemmas.Recorded.{main_alone}
use Rattle.loom.proofs.runner.recorded.covering.run.run.Goals as goal

pub returns-clause-along : goal.returns-clause-along
returns-clause-along g c = λ does words z are.
    let path = c.args.path.now in
    let run : Noting _ (Word _) = noting c.args.limits.max_threads c.args.limits.max_steps [] path (all_told words c.args.states.now) in
    let main : List (Word _) = [] ∷ [] in
    c.take_turns.ensures.along does words main run z
    (main_alone does words c.args.recording.now c.clear.new.self.items c.push.new.self.items z c.in_ok-push.ensures.items c.clear.ensures.items)
    (begins_so (by_function does) run main c.restart.new.self.run path refl (c.in_ok-restart.ensures.opens path.explores path c.requires.starts)
    (starts_so (by_function does) run path c.requires.starts.0 c.requires.unguided) c.requires.whole are)
