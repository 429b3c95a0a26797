-- A path whose nodes another tree asks for.
use Rattle.std.specs.Prelude.{ℕ, ◌≡◌, [], ◌∷◌, Err}
use Rattle.loom_engine.specs.Walk.Path.{Stored, Rest}
use Rattle.loom_views.specs.declared.rt.failure.FailureKind.TheVariants.{Assertion}
use Rattle.loom_objects.specs.Tree.Tree.{Tree, Fails}
use Rattle.loom_engine.specs.Trees.Meeting.{Settings, machine_of}
use Rattle.loom_engine.specs.Trees.Drive.{drive, at_start}
use Rattle.loom_engine.specs.Trees.Example.{no_marking}

-- it fails at once
abbrev pub failing : Tree ℕ
failing = Fails Assertion

-- Along a path of one node the tree fails by a failure of its own, and that run, which has no choices, isn't left from the path.
abbrev pub ForeignLaw : Type 0
ForeignLaw = (s : Settings) (n : Stored) → (drive s no_marking failing (at_start (n ∷ [])) ≡ (Err Assertion, at_start (n ∷ [])))
    × (Rest (machine_of s no_marking failing) (n ∷ []) [] → ⊥)
