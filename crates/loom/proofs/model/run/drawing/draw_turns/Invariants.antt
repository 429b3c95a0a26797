use Rattle.std.proofs.Common.{◌≡◌, [], List}
use Rattle.std.specs.Prelude.{None}
use Rattle.loom_objects.specs.declared.choice.Choice.{Choice}
use Rattle.loom_objects.specs.declared.operation.Reply.TheVariants as reply
use Rattle.loom_engine.specs.Path.Drawn.{IsDrawn, led_by}
use Rattle.loom_engine.specs.Path.Route.{IsSameSearch, chosen}
use Rattle.loom_engine.specs.Walk.Lists.{Begins}
use Rattle.loom.specs.Explain.Story.{Story}
use Rattle.loom.specs.Model.Turns.{IsUnderWay}
use Rattle.loom.proofs.ModelLemmas.Drawing.{HasCome}
use Rattle.loom.proofs.model.run.drawing.draw_turns.Given as goal

-- along each path that was given what the run has made so far it is under way to the story to which it was at its start
abbrev pub invariant-turns : goal.invariant-turns
invariant-turns g l = record {
  under_way : (whole : Story _) (given : List Choice) → Begins (chosen l.path) given → IsUnderWay g.B.Body.next whole [] l.fn.bodies.items l.fn.execution.run (led_by given l.fn.path) 0 reply.Start
      → HasCome g.B.Body.next whole l.bodies.items l.execution.run (led_by given l.path) l.thread l.reply;
  going : l.execution.over ≡ None;
  drawn : IsDrawn l.path;
  same : IsSameSearch l.fn.path l.path;
}

abbrev pub decreases-turns : goal.decreases-turns
decreases-turns g l = l.execution.run.state.steps_left
