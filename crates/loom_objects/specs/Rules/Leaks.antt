-- What may not be left at a run's end.
use Rattle.std.specs.Prelude.{List, [], ◌∷◌, Option, Some, None, Result, Ok, Err, ⊤}
use Rattle.loom_views.specs.declared.rt.failure.FailureKind.{FailureKind}
use Rattle.loom_objects.specs.declared.rt.object.Object.{Object}
pub use Rattle.loom_objects.specs.Rules.Uses.{is_none_left, leak_of}

-- it goes on where there is no leak
abbrev pub check_leak : Option FailureKind → Result ⊤ FailureKind
check_leak None = Ok tt
check_leak (Some kind) = Err kind

-- the first of two, if there is one
abbrev pub first_of : Option FailureKind → Option FailureKind → Option FailureKind
first_of None next = next
first_of (Some kind) next = Some kind

module _ {D : Type 0} where
  -- the first leak, in the order in which objects were made
  abbrev pub first_leak : List (Object D) → Option FailureKind
  first_leak [] = None
  first_leak (object ∷ objects) = first_of (leak_of object) (first_leak objects)
