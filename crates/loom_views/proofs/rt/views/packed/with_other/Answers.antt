use Rattle.std.proofs.Common.{◌≡◌, ◌∙◌, List, length, ap, subst, sym}
use Rattle.loom_views.specs.declared.rt.views.packed.Packed.{Packed}
use Rattle.loom_views.specs.Packed.{all_stores, unpacked}
use Rattle.loom_views.proofs.Packed.{other_counted, other_pushed}
use Rattle.loom_views.proofs.rt.views.packed.with_other.Goals as goal

pub invariant_of-result : goal.invariant_of-result
invariant_of-result c = subst (λ (l : List Packed). all_stores l ≡ length c.args.stores) (sym c.in_ok-push.ensures.ok) (other_counted c.args.list c.args.stores c.args.one c.requires.counted c.requires.none)

pub returns : goal.returns
returns c = ap (λ (l : List Packed). unpacked l c.args.stores) c.in_ok-push.ensures.ok ∙ other_pushed c.args.list c.args.stores c.args.one c.requires.counted
