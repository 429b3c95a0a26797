-- Rules without a choice: each has a result, or fails by name.
use Rattle.std.specs.Prelude.{Bool, true, false, Option, Some, None, Result, Ok, Err, ⊤}
use Rattle.loom_views.specs.declared.rt.failure.FailureKind.{FailureKind}

-- the one rule, and from its result the other
infixr 5 ◌>>=◌
abbrev pub ◌>>=◌ : {A B : Type 0} → Result A FailureKind → (A → Result B FailureKind) → Result B FailureKind
◌>>=◌ (Ok a) next = next a
◌>>=◌ (Err kind) next = Err kind

-- it goes on only where the test passes
abbrev pub check : Bool → FailureKind → Result ⊤ FailureKind
check true kind = Ok tt
check false kind = Err kind

-- it goes on with what is there
abbrev pub found : {A : Type 0} → Option A → FailureKind → Result A FailureKind
found (Some a) kind = Ok a
found None kind = Err kind
