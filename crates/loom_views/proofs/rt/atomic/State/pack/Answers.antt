use Rattle.std.proofs.Common.{◌≡◌, ◌∙◌, ◌++◌, ◌-◌, ℕ, List, take, replicate, ap, arith, sym}
use Rattle.loom_views.specs.declared.rt.atomic.State.{State}
use Rattle.loom_views.specs.declared.rt.atomic.Store.{Store}
use Rattle.loom_views.specs.Packed.{empty_store}
use Rattle.loom_views.proofs.rt.atomic.State.pack.Goals as goal

pub returns : goal.returns
returns c =
    let s = c.args.self.now in
    let k = c.filled-kept.result in
    let filled = c.filled-kept.ensures in
    let all : c.loop-place.place ≡ k = omega (arith, c.loop-place.auto.place-end, c.loop-place-test.false) in
    let stores = ap (λ (n : ℕ). take k s.stores ++ replicate (7 - n) empty_store) filled.counted ∙ sym filled.filled in
    (take k s.stores, c.loop-place.invariant ∙ ap (λ (n : ℕ). c.args.stores.now ++ take n s.stores) all, sym filled.counted, ap (λ (l : List Store). whole_of s l) stores)
  where
    whole_of : State → List Store → State
    whole_of s l = record { loaded_at = s.loaded_at; stored_at = s.stored_at; unsync_loaded_at = s.unsync_loaded_at; unsync_mut_at = s.unsync_mut_at; is_mutating = s.is_mutating; stores = l; count = s.count }
