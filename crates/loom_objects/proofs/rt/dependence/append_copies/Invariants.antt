use Rattle.std.proofs.Common.{◌≡◌, ◌++◌}
use Rattle.loom_objects.specs.Dependence.Order.{copies}
use Rattle.loom_objects.proofs.rt.dependence.append_copies.Given as goal

-- as many copies stand behind as there were rounds
abbrev pub invariant-loop : goal.invariant-loop
invariant-loop g l = l.items ≡ l.initial.items ++ copies l.counter l.value
