use Rattle.std.proofs.Common.{◌≡◌, ◌+◌}
use Rattle.std.specs.Fn.{CalledAtMut}
use Rattle.loom.specs.Runner.Trying.{IsUnderWay}
use Rattle.loom.proofs.runner.shortening.shorten_from.Given as goal

-- where the given run is the first one, so many were made, and the shortest one fails as it does
abbrev pub invariant-runs : goal.invariant-runs
invariant-runs g l = record {
  callable : goal.F-IsAlwaysCallable g l.closure;
  kind : l.shortest.failure.kind ≡ l.fn.given.failure.kind;
  under_way : (first : _) → IsUnderWay (CalledAtMut g.F.FnMut) l.builder first l.fn.closure 1 l.fn.given l.fn.last
      → IsUnderWay (CalledAtMut g.F.FnMut) l.builder first l.closure (l.behind + 1) l.shortest l.last;
}
