use Rattle.std.specs.Fn.{CalledAtMut}
use Rattle.loom.proofs.Closures.Walking.{IsWalking}
use Rattle.loom.proofs.runner.walks.make_walk.Given as goal

-- of the runs so far some were cut; the visitor was given the others, and their hashes were noted
abbrev pub invariant-walking : goal.invariant-walking
invariant-walking g l = record {
  callable : goal.F-IsAlwaysCallable g l.closure;
  walking : IsWalking (CalledAtMut g.F.FnMut) g.V.Visitor.takes l.builder l.fn.closure l.fn.visitor l.closure l.visitor l.different l.number l.cut;
}
