use Rattle.std.proofs.Common.{◌≡◌, ◌+◌, ◌-◌, ◌%◌, ◌<◌, min, ap, length, take, arith}
use Rattle.loom_views.specs.Atomic.Fences.{after_stores, kept_stores, standing_in, scene_at}
use Rattle.loom_views.proofs.Atomic.Fences.{more-gained}
use Rattle.loom_views.proofs.rt.atomic.State.acquire_fence.Goals as goal

pub loop-i-preserved : goal.loop-i-preserved
loop-i-preserved c = λ t s z.
    let n = length s.history.stores in
    let i = c.loop-i.i in
    let count = z.history.count in
    let kept = c.kept-kept.ensures in
    let all = c.from.ensures in
    let bound : i < min n 7 = omega arith in
    let oldest : c.from.result - c.kept-kept.result ≡ n - min n 7 = omega arith in
    let slot : (c.from.result - c.kept-kept.result + i) % 7 ≡ (n - min n 7 + i) % 7 = ap (λ m. (m + i) % 7) oldest in
    rw (more-gained (standing_in s) s.history.stores i ((c.from.result - c.kept-kept.result + i) % 7) bound slot)
    (c.acquire_seen.ensures t (scene_at s (after_stores (standing_in s) (take i (kept_stores s.history.stores)))) (c.loop-i.invariant t s z) (omega arith))
