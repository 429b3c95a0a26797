use Rattle.std.proofs.Common.{◌≡◌, [], List}
use Rattle.std.specs.Prelude.{None}
use Rattle.loom_objects.specs.declared.operation.Reply.TheVariants as reply
use Rattle.loom_engine.specs.Path.Route.{IsSameSearch}
use Rattle.loom_explain.specs.declared.event.Event.{Event}
use Rattle.loom.specs.Explain.Story.{Story}
use Rattle.loom.specs.Model.Turns.{IsUnderWay}
use Rattle.loom.specs.declared.runner.history.event.Event.{Event as RunEvent}
use Rattle.loom.specs.Runner.Histories.{Leads, moment}
use Rattle.loom.specs.Runner.Recorded.{Function, Word, by_function}
use Rattle.loom.specs.Runner.Recording.{AreAt, IsTrueOf}
use Rattle.loom.proofs.runner.recorded.playing.take_turns.Given as goal

-- the run is under way by each function of which the recording is true, and its history leads to where it is
abbrev pub invariant-turns : goal.invariant-turns
invariant-turns g l = record {
  under_way : (does : Function _) (words told : List (Word _)) (whole : Story _) → IsTrueOf does words l.recording → AreAt words l.fn.places.items told
      → IsUnderWay (by_function does) whole [] told l.fn.execution.run l.fn.path 0 reply.Start
      → (events : List Event) × (now : List (Word _)) × AreAt words l.places.items now × IsUnderWay (by_function does) whole events now l.execution.run l.path l.thread l.reply;
  led : (events : List (RunEvent _)) × Leads (moment l.fn.execution l.fn.path) events (moment l.execution l.path);
  going : l.execution.over ≡ None;
  same : IsSameSearch l.fn.path l.path;
}

abbrev pub decreases-turns : goal.decreases-turns
decreases-turns g l = l.execution.run.state.steps_left
