use Rattle.loom_engine.proofs.Snapshots.{one_more}
use Rattle.loom_engine.proofs.rt.snapshots.Snapshots.keep.Goals as goal

pub returns : goal.returns
returns g c = (
  c.in_ok-snapshot.snapshot,
  c.in_ok-snapshot.ensures,
  one_more c.args.self.now c.make_room.new.list.items c.push.new.self.items c.in_ok-snapshot.snapshot (rw c.self.view_is at c.make_room.ensures) c.in_ok-push.ensures.items,
)
