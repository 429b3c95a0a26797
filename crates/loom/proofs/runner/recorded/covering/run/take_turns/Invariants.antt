use Rattle.std.proofs.Common.{◌≡◌, List}
use Rattle.std.specs.Prelude.{None}
use Rattle.loom_objects.specs.declared.operation.Reply.TheVariants as reply
use Rattle.loom_engine.specs.Path.Route.{IsSameSearch}
use Rattle.loom.specs.Model.Cover.{IsUnderWay, Noting}
use Rattle.loom.specs.Runner.Recorded.{Function, Word, by_function}
use Rattle.loom.specs.Runner.Recording.{AreAt, IsTrueOf, all_told}
use Rattle.loom.proofs.runner.recorded.covering.run.take_turns.Given as goal

-- a run that was under way at its start still is, by each function of which the recording is true
abbrev pub invariant-turns : goal.invariant-turns
invariant-turns g l = record {
  under_way : (does : Function _) (words told : List (Word _)) (run : Noting _ (Word _)) → IsTrueOf does words l.recording → AreAt words l.fn.places.items told
      → IsUnderWay (by_function does) run told l.fn.execution.run l.fn.path 0 reply.Start (all_told words l.fn.states)
      → (now : List (Word _)) × AreAt words l.places.items now × IsUnderWay (by_function does) run now l.execution.run l.path l.thread l.reply (all_told words l.states);
  going : l.execution.over ≡ None;
  same : IsSameSearch l.fn.path l.path;
}

abbrev pub decreases-turns : goal.decreases-turns
decreases-turns g l = l.execution.run.state.steps_left
