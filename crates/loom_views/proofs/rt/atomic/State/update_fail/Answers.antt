use Rattle.std.proofs.Common.{◌≡◌, get_or, arith}
use Rattle.std.proofs.lemmas.List.{get_or_default}
use Rattle.loom_views.specs.Atomic.History.{in_slot}
use Rattle.loom_views.specs.Atomic.Ring.{store_at, blank_store}
use Rattle.loom_views.proofs.Atomic.Accesses.{scene_loaded-shown}
use Rattle.loom_views.proofs.rt.atomic.State.update_fail.Goals as goal

pub returns : goal.returns
returns c = λ t s z d.
    let ring = z.history.ring in
    let item : get_or c.args.self.now.stores c.args.slot c.index-self-slot.result ≡ store_at c.args.self.now.stores c.args.slot = get_or_default c.args.self.now.stores c.args.slot c.index-self-slot.result blank_store (omega arith) in
    rw (c.sync_fail.ensures, item) (scene_loaded-shown t s c.args.views.now c.args.self.now (in_slot s.history.stores c.args.slot).sync (store_at c.args.self.now.stores c.args.slot).sync c.args.failure (z.history.stores c.args.slot c.requires d).sync z)
