use Rattle.std.proofs.Common.{◌≡◌, ◌++◌, take}
use Rattle.loom_views.proofs.rt.atomic.State.pack.Given as goal

-- those so far are put behind
abbrev pub invariant-loop-place : goal.invariant-loop-place
invariant-loop-place l = l.stores ≡ l.fn.stores ++ take l.place l.self.stores
