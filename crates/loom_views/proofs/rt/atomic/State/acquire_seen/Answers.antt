use Rattle.std.proofs.Common.{◌≡◌, ap, sym, ◌∙◌, get_or, true, false, arith}
use Rattle.std.proofs.lemmas.List.{get_or_default}
use Rattle.loom_views.specs.declared.rt.atomic.Store.{Store}
use Rattle.loom_views.specs.Atomic.History.{in_slot}
use Rattle.loom_views.specs.Atomic.Ring.{store_at, blank_store, is_touch_in}
use Rattle.loom_views.proofs.Atomic.Fences.{seen-gained, unseen-gained}
use Rattle.loom_views.proofs.rt.atomic.State.acquire_seen.Goals as goal

pub returns-then-is_seen_from : goal.returns-then-is_seen_from
returns-then-is_seen_from c = λ t s z d.
    let ring = z.history.ring in
    let item : get_or c.args.self.now.stores c.args.slot c.index-self-slot.result ≡ store_at c.args.self.now.stores c.args.slot = get_or_default c.args.self.now.stores c.args.slot c.index-self-slot.result blank_store (omega arith) in
    let seen : is_touch_in (store_at c.args.self.now.stores c.args.slot).first_seen.versions c.args.views.now.present ≡ true = ap (λ (store : Store). is_touch_in store.first_seen.versions c.args.views.now.present) (sym item) ∙ sym c.is_seen_from.ensures ∙ c.if-is_seen_from.true in
    rw (c.sync_load.ensures.joined, item) (seen-gained t s c.args.views.now c.args.self.now (in_slot s.history.stores c.args.slot) (store_at c.args.self.now.stores c.args.slot) (z.history.stores c.args.slot c.requires d) z seen)

pub returns-else-is_seen_from : goal.returns-else-is_seen_from
returns-else-is_seen_from c = λ t s z d.
    let ring = z.history.ring in
    let item : get_or c.args.self.now.stores c.args.slot c.index-self-slot.result ≡ store_at c.args.self.now.stores c.args.slot = get_or_default c.args.self.now.stores c.args.slot c.index-self-slot.result blank_store (omega arith) in
    let seen : is_touch_in (store_at c.args.self.now.stores c.args.slot).first_seen.versions c.args.views.now.present ≡ false = ap (λ (store : Store). is_touch_in store.first_seen.versions c.args.views.now.present) (sym item) ∙ sym c.is_seen_from.ensures ∙ c.if-is_seen_from.false in
    unseen-gained t s c.args.views.now c.args.self.now (in_slot s.history.stores c.args.slot) (store_at c.args.self.now.stores c.args.slot) (z.history.stores c.args.slot c.requires d) z seen
