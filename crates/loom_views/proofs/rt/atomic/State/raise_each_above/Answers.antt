use Rattle.std.proofs.Common.{List, ◌∙◌, ap, ◌≡◌, ℕ, cond, get_or, set, arith}
use Rattle.std.proofs.lemmas.List.{get_or_default}
use Rattle.loom_views.specs.Versions.{join}
use Rattle.loom_views.specs.Atomic.Ring.{store_at, blank_store}
use Rattle.loom_views.specs.declared.rt.atomic.State.{State}
use Rattle.loom_views.specs.declared.rt.atomic.Store.{Store}
use Rattle.loom_views.proofs.Atomic.Reads.{raise-if}
use Rattle.loom_views.proofs.rt.atomic.State.raise_each_above.Goals as goal

pub loop-i-preserved : goal.loop-i-preserved
loop-i-preserved c =
    let so_far = ap (λ (state : State). state.stores) c.loop-i.invariant in
    let item : get_or c.loop-i.self.stores c.loop-i.i c.index-self-i.result ≡ store_at c.loop-i.self.stores c.loop-i.i = get_or_default c.loop-i.self.stores c.loop-i.i c.index-self-i.result blank_store (omega arith) in
    ap (λ (vs : List ℕ). record c.loop-i.self { stores = set c.loop-i.self.stores c.loop-i.i (record (get_or c.loop-i.self.stores c.loop-i.i c.index-self-i.result) { order = vs }) }) c.join_if.ensures
    ∙ ap (λ (store : Store). record c.loop-i.self { stores = set c.loop-i.self.stores c.loop-i.i (record store { order = cond c.lies_above-is_above.result (join store.order c.args.order.now) store.order }) }) item
    ∙ ap (λ (state : State). record state { stores = set c.loop-i.self.stores c.loop-i.i (record (store_at c.loop-i.self.stores c.loop-i.i) { order = cond c.lies_above-is_above.result (join (store_at c.loop-i.self.stores c.loop-i.i).order c.args.order.now) (store_at c.loop-i.self.stores c.loop-i.i).order }) }) c.loop-i.invariant
    ∙ ap (λ (stores : List Store). record c.args.self.now { stores = stores }) (raise-if c.args.order.now c.args.before.now c.args.self.now.stores c.loop-i.self.stores c.args.slot c.loop-i.i so_far c.lies_above-is_above.result c.lies_above-is_above.ensures)
