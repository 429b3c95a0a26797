-- What a scene or an object ends as, where a `&mut` to one of its parts is returned.
use Rattle.std.specs.Prelude.{ℕ, slice_set, Result}
use Rattle.std.specs.Borrow.{LendsIfOk, Fml, RattleType, MutBor}
use Rattle.loom_views.specs.declared.rt.failure.FailureKind.{FailureKind}
use Rattle.loom_objects.specs.declared.rt.object.Object.{Object}
use Rattle.loom_objects.specs.contracts.rt.object.Object as object_contracts
use Rattle.loom_objects.specs.contracts.rt.scene.Scene as scene_contracts
use Rattle.loom_objects.specs.Scene.Stage.{Stage}

-- the object of this number is what was left behind r; at an error all stays as it was
abbrev pub lends_in_scene : (D T : RattleType) → (T.Denot → Object D.Denot) → MutBor (Stage D.Denot) → ℕ → Result (MutBor T.Denot) FailureKind → Fml
lends_in_scene D T variant s n r = LendsIfOk (scene_contracts.the_row D) T s r (λ it. record s.now { objects = slice_set s.now.objects n (variant it) }) s.now

-- the object is what was left behind r, as the variant; at an error it stays as it was
abbrev pub lends_kind : (D T : RattleType) → (T.Denot → Object D.Denot) → MutBor (Object D.Denot) → Result (MutBor T.Denot) FailureKind → Fml
lends_kind D T variant s r = LendsIfOk (object_contracts.the_row D) T s r variant s.now
