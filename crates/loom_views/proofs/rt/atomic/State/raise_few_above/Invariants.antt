use Rattle.std.proofs.Common.{◌≡◌}
use Rattle.std.specs.List.{filter}
use Rattle.loom_views.specs.Atomic.Slots.{upto}
use Rattle.loom_views.specs.Atomic.Ring.{orders_joined, is_slot_above}
use Rattle.loom_views.proofs.rt.atomic.State.raise_few_above.Given as goal

-- the stores so far have taken in the order
abbrev pub invariant-loop-i : goal.invariant-loop-i
invariant-loop-i l = l.self ≡ record l.fn.self { stores = orders_joined l.order l.fn.self.stores (filter (is_slot_above l.before l.fn.self.stores l.slot) (upto l.i)) }
