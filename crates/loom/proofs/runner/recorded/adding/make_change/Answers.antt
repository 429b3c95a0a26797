use Rattle.std.proofs.Common.{arith, length-take-le, sym}
use Rattle.loom.proofs.runner.recorded.adding.make_change.Goals as goal

pub slice_bounds-told_events-end : goal.slice_bounds-told_events-end
slice_bounds-told_events-end g c = sym (length-take-le c.args.place c.args.events.now (omega (arith, c.requires)))
