use Rattle.loom_views.proofs.Atomic.Table.Fences.{IsFenced}
use Rattle.loom_views.proofs.rt.views.Views.acquire_fence.Given as goal

-- the fence has reached this object
abbrev pub invariant-loop-place : goal.invariant-loop-place
invariant-loop-place l = IsFenced l.self l.thread l.initial.views l.views l.place
