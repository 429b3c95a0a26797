use Rattle.std.proofs.Common.{ℕ, take}
use Rattle.loom_views.specs.Atomic.History.{Scene}
use Rattle.loom_views.specs.Atomic.Fences.{after_stores, kept_stores, standing_in, scene_at}
use Rattle.loom_views.specs.Atomic.Shown.{ShowsScene}
use Rattle.loom_views.proofs.rt.atomic.State.acquire_fence.Given as goal

-- the thread is where the stores so far have brought it
abbrev pub invariant-loop-i : goal.invariant-loop-i
invariant-loop-i l = (t : ℕ) (s : Scene) → ShowsScene t s l.fn.views l.self → ShowsScene t (scene_at s (after_stores (standing_in s) (take l.i (kept_stores s.history.stores)))) l.views l.self
