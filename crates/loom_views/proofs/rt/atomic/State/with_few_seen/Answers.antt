use Rattle.std.proofs.Common.{List, sym, ◌∙◌, ap, ◌≡◌, ℕ, true, false, get_or, arith}
use Rattle.std.proofs.lemmas.List.{get_or_default}
use Rattle.loom_views.specs.Versions.{join}
use Rattle.loom_views.specs.Atomic.Ring.{is_order_seen, store_at, blank_store}
use Rattle.loom_views.specs.declared.rt.atomic.Store.{Store}
use Rattle.loom_views.proofs.Atomic.Loops.{join_all_more-yes, join_all_more-no}
use Rattle.loom_views.proofs.rt.atomic.State.with_few_seen.Goals as goal
use Rattle.loom_views.proofs.rt.atomic.State.with_few_seen.Goals.{then-is_order_seen, else-is_order_seen}

pub loop-i-preserved : goal.loop-i-preserved
loop-i-preserved c =
    elim c.if-is_order_seen.branch [
      | then-is_order_seen w ↦
          let seen : is_order_seen c.args.self.now.stores c.args.view.now c.args.left_out c.loop-i.i ≡ true = sym c.is_order_seen.ensures ∙ w.if-is_order_seen.true in
          let item : get_or c.args.self.now.stores c.loop-i.i w.index-self-i.result ≡ store_at c.args.self.now.stores c.loop-i.i = get_or_default c.args.self.now.stores c.loop-i.i w.index-self-i.result blank_store (omega arith) in
          w.joined-is ∙ w.join.ensures.joined ∙ ap (λ (store : Store). join c.loop-i.joined store.order) item
          ∙ ap (λ (vs : List ℕ). join vs (store_at c.args.self.now.stores c.loop-i.i).order) c.loop-i.invariant
          ∙ sym (join_all_more-yes c.args.order (λ i. (store_at c.args.self.now.stores i).order) (is_order_seen c.args.self.now.stores c.args.view.now c.args.left_out) c.loop-i.i seen)
      | else-is_order_seen w ↦
          let seen : is_order_seen c.args.self.now.stores c.args.view.now c.args.left_out c.loop-i.i ≡ false = sym c.is_order_seen.ensures ∙ w.if-is_order_seen.false in
          w.joined-is ∙ c.loop-i.invariant ∙ sym (join_all_more-no c.args.order (λ i. (store_at c.args.self.now.stores i).order) (is_order_seen c.args.self.now.stores c.args.view.now c.args.left_out) c.loop-i.i seen)
    ]
