use Rattle.std.proofs.Common.{◌≡◌, false, not, get_or, ap, ◌∙◌, arith}
use Rattle.std.proofs.lemmas.List.{get_or_default}
use Rattle.std.specs.List.{list_any}
use Rattle.loom_views.specs.Atomic.Slots.{upto}
use Rattle.loom_views.specs.Atomic.Ring.{blank_store, is_below_seen, is_touch_in, store_at}
use Rattle.loom_views.specs.declared.rt.atomic.Store.{Store}
use Rattle.loom_views.proofs.Atomic.Seeing.{full_set, more_seen}
use Rattle.loom_views.proofs.rt.atomic.State.above_seen.Goals as goal

pub loop-j-preserved : goal.loop-j-preserved
loop-j-preserved c =
    let stores = c.args.self.now.stores in
    let item : get_or stores c.loop-j.j c.index-self-j.result ≡ store_at stores c.loop-j.j = get_or_default stores c.loop-j.j c.index-self-j.result blank_store (omega arith) in
    let is : c.is_seen_from-is_seen.result ≡ is_touch_in (store_at stores c.loop-j.j).first_seen.versions c.args.view.now =
    c.is_seen_from-is_seen.ensures ∙ ap (λ (store : Store). is_touch_in store.first_seen.versions c.args.view.now) item in
    record {
      size = c.leave_below.ensures.size;
      left = λ k l. c.leave_below.ensures.left k l ∙ more_seen stores c.args.view.now k c.loop-j.j (get_or c.loop-j.set k false) c.is_seen_from-is_seen.result (c.loop-j.invariant.left k l) is;
    }

pub returns : goal.returns
returns c = full_set (is_below_seen c.args.self.now.stores c.args.view.now) c.args.self.now.count c.loop-j.set c.requires.full c.loop-j.invariant.size (λ k l. let seven : c.loop-j.j ≡ 7 = omega arith in c.loop-j.invariant.left k l ∙ ap (λ n. not (list_any (is_below_seen c.args.self.now.stores c.args.view.now k) (upto n))) seven)
