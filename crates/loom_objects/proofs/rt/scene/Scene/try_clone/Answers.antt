use Rattle.std.proofs.Common.{◌∙◌}
use Rattle.loom_objects.proofs.rt.scene.Scene.try_clone.Goals as goal

pub invariant_of-result : goal.invariant_of-result
invariant_of-result g c = rw (c.in_ok-copied_all.ensures ∙ c.as_slice.ensures) c.self.invariant

pub returns : goal.returns
returns g c =
    rw (c.in_ok-copied_all.ensures ∙ c.as_slice.ensures, c.in_ok-copied_all-2.ensures ∙ c.as_slice-2.ensures, c.in_ok-try_clone.ensures, c.in_ok-copied_all-3.ensures ∙ c.as_slice-3.ensures) c.self.view_is
