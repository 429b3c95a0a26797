-- Steps that switch whether the search explores.
use Rattle.std.specs.Prelude.{Bool, false}
use Rattle.loom_objects.specs.Exploring.{is_switch}
use Rattle.loom_examples.specs.Scripts.Written.{Written, Do, Labelled, Store, Label, JumpTo, IfTo, UnlessTo, SpawnAt}

abbrev pub switches : Written → Bool
switches (Do keep made) = is_switch made
switches (Labelled keep made called) = is_switch made
switches (Store slot value order) = false
switches (Label label) = false
switches (JumpTo name) = false
switches (IfTo register n name) = false
switches (UnlessTo register n name) = false
switches (SpawnAt slot name) = false
