use Rattle.std.proofs.Common.{◌≡◌, ◌∙◌, List, length, ap, ap₂, refl, subst, sym}
use Rattle.loom_views.specs.declared.rt.views.packed.Packed.{Packed}
use Rattle.loom_views.specs.Packed.{all_stores, unpacked, whole}
use Rattle.loom_views.proofs.Packed.{atomic_counted, atomic_pushed}
use Rattle.loom_views.proofs.rt.views.packed.with_ranked_atomic.Goals as goal

pub invariant_of-result : goal.invariant_of-result
invariant_of-result c =
    let h = rw c.in-Some.is at c.in_ok-found.ensures in
    subst (λ (l : List Packed). all_stores l ≡ length c.pack_ranked.new.stores) (sym c.in_ok-push.ensures.ok) (atomic_counted c.args.list c.args.stores h.0 c.in-Some.head c.requires.counted h.2 ∙ sym (ap length h.1))

pub returns : goal.returns
returns c =
    let h = rw c.in-Some.is at c.in_ok-found.ensures in
    let one = whole c.in-Some.head h.0 in
    (one, h.3, ap₂ unpacked c.in_ok-push.ensures.ok h.1 ∙ atomic_pushed c.args.list c.args.stores h.0 c.in-Some.head one c.requires.counted h.2 refl)
