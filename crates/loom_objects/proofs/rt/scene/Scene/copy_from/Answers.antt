use Rattle.std.proofs.Common.{◌∙◌}
use Rattle.loom_objects.proofs.rt.scene.Scene.copy_from.Goals as goal

pub invariant_of-self-2 : goal.invariant_of-self-2
invariant_of-self-2 g c = rw (c.in_ok-threads.ensures ∙ c.as_slice.ensures) c.other.invariant

pub returns : goal.returns
returns g c =
    rw (c.in_ok-threads.ensures ∙ c.as_slice.ensures, c.in_ok-copy_all.ensures ∙ c.as_slice-2.ensures, c.in_ok-copy_all-2.ensures ∙ c.as_slice-3.ensures, c.in_ok-copy_from.ensures) c.other.view_is
