use Rattle.std.proofs.Common.{◌≡◌, None}
use Rattle.loom_engine.specs.Covering.Kept.{beside}
use Rattle.loom_engine.specs.Path.Route.{IsSameSearch}
use Rattle.loom.specs.Model.Cover.{IsUnderWay, Noting}
use Rattle.loom.specs.Model.CoverSnapshots.{AreKeptIn}
use Rattle.loom.proofs.model.cover.run.take_turns.Given as goal

-- a run that was under way at its start still is, and what was kept is kept still
abbrev pub invariant-turns : goal.invariant-turns
invariant-turns g l = record {
  under_way : (run : Noting _ _) → IsUnderWay g.B.Body.next run l.fn.bodies.items l.fn.execution.run l.fn.path l.fn.first_thread l.fn.first_reply (beside l.known l.fn.states)
      → IsUnderWay g.B.Body.next run l.bodies.items l.execution.run l.path l.thread l.reply (beside l.known l.states);
  kept : (run : Noting _ _) → IsUnderWay g.B.Body.next run l.fn.bodies.items l.fn.execution.run l.fn.path l.fn.first_thread l.fn.first_reply (beside l.known l.fn.states) → AreKeptIn g.B.Body.next run l.fn.path.nodes l.fn.snapshots
      → AreKeptIn g.B.Body.next run l.path.nodes l.snapshots;
  going : l.execution.over ≡ None;
  same : IsSameSearch l.fn.path l.path;
}

abbrev pub decreases-turns : goal.decreases-turns
decreases-turns g l = l.execution.run.state.steps_left
