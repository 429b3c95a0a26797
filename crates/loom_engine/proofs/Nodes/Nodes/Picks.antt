-- What a decided case picks.
use Rattle.std.proofs.Common.{◌≡◌, refl}
use Rattle.loom_engine.specs.Walk.Choices.{pick}

pub pick_yes : {B C : Type 0} (d : Dec B) (x y : C) → B → pick d x y ≡ x
pick_yes (yes a) x y b = refl
pick_yes (no f) x y b = absurd (f b)

pub pick_no : {B C : Type 0} (d : Dec B) (x y : C) → (B → ⊥) → pick d x y ≡ y
pick_no (yes a) x y f = absurd (f a)
pick_no (no g) x y f = refl
