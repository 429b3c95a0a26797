use Rattle.std.proofs.Common.{arith}
use Rattle.loom_engine.proofs.Nodes.Notes.{tally_start}
use Rattle.loom_engine.proofs.rt.path.part.resting.Goals as goal

pub invariant_of-result : goal.invariant_of-result
invariant_of-result c = (omega arith, c.requires.fits, c.requires.well, c.requires.noted, tally_start c.args.list c.new-2.result c.new-2.ensures)
