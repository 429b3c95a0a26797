use Rattle.std.proofs.Common.{◌≡◌, ◌∙◌, List, length, ap, ap₂, subst, sym}
use Rattle.loom_views.specs.declared.rt.views.packed.Packed.{Packed}
use Rattle.loom_views.specs.Packed.{all_stores, unpacked}
use Rattle.loom_views.proofs.Packed.{atomic_counted, atomic_pushed}
use Rattle.loom_views.proofs.rt.views.packed.with_atomic.Goals as goal

pub invariant_of-result : goal.invariant_of-result
invariant_of-result c =
    let h = c.in_ok-head.ensures in
    subst (λ (l : List Packed). all_stores l ≡ length c.pack.new.stores) (sym c.in_ok-push.ensures.ok) (atomic_counted c.args.list c.args.stores h.0 c.in_ok-head.head c.requires.counted h.2 ∙ sym (ap length h.1))

pub returns : goal.returns
returns c =
    let h = c.in_ok-head.ensures in
    ap₂ unpacked c.in_ok-push.ensures.ok h.1 ∙ atomic_pushed c.args.list c.args.stores h.0 c.in_ok-head.head c.args.state.now c.requires.counted h.2 h.3
