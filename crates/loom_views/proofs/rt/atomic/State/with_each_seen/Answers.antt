use Rattle.std.proofs.Common.{◌∙◌, ap, ◌≡◌, cond, get_or, arith}
use Rattle.std.proofs.lemmas.List.{get_or_default}
use Rattle.loom_views.specs.Versions.{join}
use Rattle.loom_views.specs.Atomic.Ring.{is_order_seen, store_at, blank_store}
use Rattle.loom_views.specs.declared.rt.atomic.Store.{Store}
use Rattle.loom_views.proofs.Atomic.Loops.{join_all_more}
use Rattle.loom_views.proofs.rt.atomic.State.with_each_seen.Goals as goal

pub loop-i-preserved : goal.loop-i-preserved
loop-i-preserved c =
    let item : get_or c.args.self.now.stores c.loop-i.i c.index-self-i.result ≡ store_at c.args.self.now.stores c.loop-i.i = get_or_default c.args.self.now.stores c.loop-i.i c.index-self-i.result blank_store (omega arith) in
    c.join_if.ensures ∙ ap (λ (store : Store). cond c.sees_order.result (join c.loop-i.joined store.order) c.loop-i.joined) item
    ∙ join_all_more c.args.order (λ i. (store_at c.args.self.now.stores i).order) (is_order_seen c.args.self.now.stores c.args.view.now c.args.left_out) c.loop-i.i c.sees_order.result c.loop-i.joined c.sees_order.ensures c.loop-i.invariant
