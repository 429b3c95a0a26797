use Rattle.std.proofs.Common.{sym, arith}
use Rattle.std.proofs.lemmas.Option.{slice_get_past}
use Rattle.loom_objects.proofs.Dependence.Lists.{append-nil}
use Rattle.loom_objects.proofs.rt.dependence.Dependence.add_threads.Goals as goal

pub returns-then-parent-len-clause-added : goal.returns-then-parent-len-clause-added
returns-then-parent-len-clause-added c = rw (slice_get_past c.args.self.now.threads c.args.parent (omega (arith, c.len.ensures, c.if-parent-len.true))) (sym (append-nil c.args.self.now.threads))

pub returns-clause-added : goal.returns-clause-added
returns-clause-added c = rw c.at-view.ensures c.append_copies.ensures.appended
