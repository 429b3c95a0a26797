use Rattle.loom_engine.proofs.rt.snapshots.Snapshot.of.Goals as goal

pub returns : goal.returns
returns g c = record {
  same_execution = c.in_ok-try_clone.ensures;
  same_bodies = c.in_ok-copied_bodies.ensures;
  place = c.standing.ensures.position;
  exploring = c.standing.ensures.exploring;
  tally = c.standing.ensures.tally;
}
