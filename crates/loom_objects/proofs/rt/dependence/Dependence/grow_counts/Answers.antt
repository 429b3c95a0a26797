use Rattle.std.proofs.Common.{arith}
use Rattle.loom_objects.proofs.Dependence.Counts.{grown-counts}
use Rattle.loom_objects.proofs.rt.dependence.Dependence.grow_counts.Goals as goal

pub returns-clause-grown : goal.returns-clause-grown
returns-clause-grown c = λ o objects z.
    grown-counts c.append_copies.result o c.args.self.now _ c.args.parent c.args.threads objects (omega (arith, c.len.ensures, c.if-parent-len.false)) (rw c.new.ensures at c.append_copies.ensures.appended) z
