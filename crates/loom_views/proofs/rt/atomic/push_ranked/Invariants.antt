use Rattle.std.proofs.Common.{◌≡◌, ◌++◌, List, take}
use Rattle.loom_views.specs.InOrder.{PairAll, PairsStores, Ranked}
use Rattle.loom_views.specs.declared.rt.atomic.Store.{Store}
use Rattle.loom_views.proofs.rt.atomic.push_ranked.Given as goal

-- those so far are put behind, by ranks
abbrev pub invariant-loop-store : goal.invariant-loop-store
invariant-loop-store l = (more : List Store) × (l.stores ≡ l.fn.stores ++ more) × PairAll (Ranked l.ranks) (PairsStores (Ranked l.ranks)) (take l.store-index l.from) more
