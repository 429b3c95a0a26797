use Rattle.std.proofs.Common.{◌≡◌, [], List}
use Rattle.std.specs.Prelude.{None}
use Rattle.loom_objects.specs.declared.operation.Reply.TheVariants as reply
use Rattle.loom_engine.specs.Path.Route.{IsSameSearch}
use Rattle.loom_explain.specs.declared.event.Event.{Event}
use Rattle.loom.specs.Explain.Story.{Story}
use Rattle.loom.specs.Model.Listening.{HasHeard}
use Rattle.loom.specs.Model.Turns.{IsUnderWay}
use Rattle.loom.proofs.model.run.take_turns.Given as goal

-- the run is under way to the story to which it was under way at its start, and the listener heard the events so far
abbrev pub invariant-turns : goal.invariant-turns
invariant-turns g l = record {
  under_way : (whole : Story _) → IsUnderWay g.B.Body.next whole [] l.fn.bodies.items l.fn.execution.run l.fn.path 0 reply.Start
      → (events : List Event) × HasHeard g.L.Listener.takes_reply g.L.Listener.takes_op l.fn.listener events l.listener
      × IsUnderWay g.B.Body.next whole events l.bodies.items l.execution.run l.path l.thread l.reply;
  going : l.execution.over ≡ None;
  same : IsSameSearch l.fn.path l.path;
}

abbrev pub decreases-turns : goal.decreases-turns
decreases-turns g l = l.execution.run.state.steps_left
