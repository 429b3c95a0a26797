use Rattle.std.proofs.Common.{◌∙◌}
use Rattle.loom_engine.proofs.rt.snapshots.Snapshot.copy_from.Goals as goal

pub returns : goal.returns
returns g c = record {
  same_execution = c.in_ok-copy_from.ensures;
  same_bodies = c.from_vec-copy.ensures ∙ c.in_ok-restart_all.ensures;
  place = c.standing-standing.ensures.position;
  exploring = c.standing-standing.ensures.exploring;
  tally = c.standing-standing.ensures.tally;
}
