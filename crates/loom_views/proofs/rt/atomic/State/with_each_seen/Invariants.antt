use Rattle.std.proofs.Common.{◌≡◌, map}
use Rattle.std.specs.List.{filter}
use Rattle.loom_views.specs.Atomic.Slots.{upto}
use Rattle.loom_views.specs.Versions.{join_all}
use Rattle.loom_views.specs.Atomic.Ring.{is_order_seen, store_at}
use Rattle.loom_views.proofs.rt.atomic.State.with_each_seen.Given as goal

-- the orders so far are joined
abbrev pub invariant-loop-i : goal.invariant-loop-i
invariant-loop-i l = l.joined ≡ join_all l.fn.order (map (λ i. (store_at l.self.stores i).order) (filter (is_order_seen l.self.stores l.view l.left_out) (upto l.i)))
