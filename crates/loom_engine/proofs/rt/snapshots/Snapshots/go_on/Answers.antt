use Rattle.std.proofs.Common.{length, sym, arith}
use Rattle.std.proofs.lemmas.List.{take_all}
use Rattle.loom_engine.proofs.rt.snapshots.Snapshots.go_on.Goals as goal

pub returns-then-is_left-clause-fewer : goal.returns-then-is_left-clause-fewer
returns-then-is_left-clause-fewer g c = (length c.args.self.now, sym (take_all (length c.args.self.now) c.args.self.now (omega arith)))
