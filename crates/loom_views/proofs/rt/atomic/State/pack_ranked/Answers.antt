use Rattle.std.proofs.Common.{rules, ◌∙◌, List, subst, sym, take}
use Rattle.loom_views.specs.InOrder.{PairAll, PairsStores, Ranked}
use Rattle.loom_views.specs.declared.rt.atomic.Store.{Store}
use Rattle.loom_views.proofs.Packed.{stores_pair}
use Rattle.loom_views.proofs.rt.atomic.State.pack_ranked.Goals as goal

pub returns : goal.returns
returns c =
    let pairs = Ranked c.args.ranks.now in
    let k = c.filled-kept.result in
    let filled = c.filled-kept.ensures in
    let h = c.in_ok-is_done.ensures (search rules) in
    let paired : PairAll pairs (PairsStores pairs) (take k c.args.self.now.stores) h.0 = subst (λ (l : List Store). PairAll pairs (PairsStores pairs) (take k l) h.0) c.as_slice.ensures h.2 in
    (h.0, h.1, c.in-Some.ensures.kept ∙ sym filled.counted ∙ paired.count, c.in-Some.ensures.paired h.0 (stores_pair pairs c.zeros.ensures c.args.self.now.stores h.0 k filled.few filled.counted filled.filled paired))
