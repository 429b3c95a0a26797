use Rattle.std.proofs.Common.{take}
use Rattle.std.specs.Prelude.{Ok}
use Rattle.loom_objects.specs.Rules.Condvar.{rouse_all}
use Rattle.loom_objects.specs.Scene.Stage.{Does}
use Rattle.loom_objects.proofs.rt.condvar.rouse_all.Given as goal

-- the first ones were woken
abbrev pub invariant-loop-i : goal.invariant-loop-i
invariant-loop-i g l = Does (rouse_all (take l.i l.fn.threads)) l.fn.scene (Ok tt) l.scene
