use Rattle.std.proofs.Common.{◌≡◌, ℕ, ◌<◌, length, get_or, None}
use Rattle.loom_objects.specs.Dependence.Order.{Order, unordered_by}
use Rattle.loom_objects.specs.Dependence.Shown.{ShowsOrder}
use Rattle.loom_objects.proofs.rt.dependence.Dependence.unordered.Given as goal

-- the threads so far are answered
abbrev pub invariant-loop-thread : goal.invariant-loop-thread
invariant-loop-thread l = record {
  five : length l.places ≡ 5;
  answered : (o : Order) → ShowsOrder o l.self → (k : ℕ) → k < l.thread → get_or l.places k None ≡ unordered_by o k (get_or l.uses k None);
}
