use Rattle.std.proofs.Common.{List, sym, ◌∙◌, ap, ◌≡◌, ℕ, true, false, get_or, set, arith}
use Rattle.std.proofs.lemmas.List.{get_or_default}
use Rattle.loom_views.specs.Versions.{join}
use Rattle.loom_views.specs.Atomic.Ring.{store_at, blank_store, order_joined, is_slot_above}
use Rattle.loom_views.specs.declared.rt.atomic.State.{State}
use Rattle.loom_views.specs.declared.rt.atomic.Store.{Store}
use Rattle.loom_views.proofs.Atomic.Reads.{raise-yes, raise-no}
use Rattle.loom_views.proofs.rt.atomic.State.raise_few_above.Goals as goal
use Rattle.loom_views.proofs.rt.atomic.State.raise_few_above.Goals.{then-is_above, else-is_above}

pub loop-i-preserved : goal.loop-i-preserved
loop-i-preserved c =
    let so_far = ap (λ (state : State). state.stores) c.loop-i.invariant in
    elim c.if-is_above.branch [
      | then-is_above w ↦
          let above : is_slot_above c.args.before.now c.loop-i.self.stores c.args.slot c.loop-i.i ≡ true = sym c.is_above.ensures ∙ w.if-is_above.true in
          let item : get_or c.loop-i.self.stores c.loop-i.i w.index-self-i.result ≡ store_at c.loop-i.self.stores c.loop-i.i = get_or_default c.loop-i.self.stores c.loop-i.i w.index-self-i.result blank_store (omega arith) in
          w.self-is
          ∙ ap (λ (vs : List ℕ). record c.loop-i.self { stores = set c.loop-i.self.stores c.loop-i.i (record (get_or c.loop-i.self.stores c.loop-i.i w.index-self-i.result) { order = vs }) }) w.join.ensures.joined
          ∙ ap (λ (store : Store). record c.loop-i.self { stores = set c.loop-i.self.stores c.loop-i.i (record store { order = join store.order c.args.order.now }) }) item
          ∙ ap (λ (state : State). record state { stores = order_joined c.args.order.now c.loop-i.self.stores c.loop-i.i }) c.loop-i.invariant
          ∙ ap (λ (stores : List Store). record c.args.self.now { stores = stores }) (raise-yes c.args.order.now c.args.before.now c.args.self.now.stores c.loop-i.self.stores c.args.slot c.loop-i.i so_far above)
      | else-is_above w ↦
          let above : is_slot_above c.args.before.now c.loop-i.self.stores c.args.slot c.loop-i.i ≡ false = sym c.is_above.ensures ∙ w.if-is_above.false in
          w.self-is
          ∙ ap (λ (state : State). record state { stores = c.loop-i.self.stores }) c.loop-i.invariant
          ∙ ap (λ (stores : List Store). record c.args.self.now { stores = stores }) (raise-no c.args.order.now c.args.before.now c.args.self.now.stores c.loop-i.self.stores c.args.slot c.loop-i.i so_far above)
    ]
