-- The names that a thread may use where its text is read.
use Rattle.std.specs.Prelude.{ℕ, ℤ, zero, suc, List, [], ◌∷◌, Bool, false, Option, Some, None, codes, map, position, slice_get, string_bytes, String, if◌then◌else◌}
use Rattle.std.specs.Option.{option_and_then, option_flatten, option_map, unwrap_or}
use Rattle.std.specs.Str.{bytes_eq}
use Rattle.std.specs.declared.alloc.Global.{Global}
use Rattle.loom_text.specs.contracts.test.KindPartialEq.TheImpl as same_kinds
use Rattle.loom_text.specs.declared.read.scope.Scope.{Scope}
use Rattle.loom_text.specs.declared.test.Kind.{Kind}
use Rattle.loom_text.specs.declared.test.Location.{Location}
use Rattle.loom_text.specs.declared.test.Thread.{Thread}

-- a location, wherever its name lies
pub record Located : Type 0 where
  pub name : List ℕ
  pub kind : Kind
  pub value : ℤ

abbrev pub located : Location → Located
located location = record {
  name = string_bytes location.name;
  kind = location.kind;
  value = location.value;
}

-- names, by their spellings
abbrev pub Names : Type 0
Names = List (List ℕ)

abbrev pub spellings : List (String Global) → Names
spellings = map (λ name. string_bytes name)

abbrev pub registers_of : Thread → Names
registers_of thread = spellings thread.registers.items

-- the number of this name
abbrev pub named_in : Names → List ℕ → Option ℕ
named_in names name = position (λ other. bytes_eq other name) names

abbrev pub location_in : List Located → List ℕ → Option ℕ
location_in locations name = position (λ location. bytes_eq location.name name) locations

-- ---- the locations that a thread is passed

-- with this one at this number
abbrev pub put : ℕ → Located → List (Option Located) → List (Option Located)
put zero location [] = Some location ∷ []
put zero location (other ∷ others) = Some location ∷ others
put (suc n) location [] = None ∷ put n location []
put (suc n) location (other ∷ others) = other ∷ put n location others

abbrev pub put_found : ℕ → Option Located → List (Option Located) → List (Option Located)
put_found number None others = others
put_found number (Some location) others = put number location others

-- those of the test's locations that have these numbers, each at its number
abbrev pub parameters_of : List Located → List ℕ → List (Option Located)
parameters_of locations [] = []
parameters_of locations (number ∷ numbers) = put_found number (slice_get locations number) (parameters_of locations numbers)

-- they, and the names of its registers so far
pub record Known : Type 0 where
  pub locations : List (Option Located)
  pub registers : Names

abbrev pub known : Scope → Known
known scope = record {
  locations = parameters_of (map located scope.locations.now) scope.parameters.now;
  registers = spellings scope.registers.items;
}

-- what has this number
abbrev pub parameter_numbered : List (Option Located) → ℕ → Option Located
parameter_numbered locations number = option_flatten (slice_get locations number)

abbrev pub name_of : List (Option Located) → ℕ → List ℕ
name_of locations number = unwrap_or (option_map (λ location. location.name) (parameter_numbered locations number)) (codes "?")

-- what has this name: its number and its kind
abbrev pub has_name : List ℕ → Option Located → Bool
has_name name None = false
has_name name (Some location) = bytes_eq location.name name

abbrev pub numbered : ℕ → Option Located → Option (ℕ × Kind)
numbered number None = None
numbered number (Some location) = Some (number, location.kind)

abbrev pub parameter_in : List (Option Located) → List ℕ → Option (ℕ × Kind)
parameter_in locations name = option_and_then (λ number. numbered number (parameter_numbered locations number)) (position (has_name name) locations)

-- its number, if it is of this kind
abbrev pub number_of : Kind → Option (ℕ × Kind) → Option ℕ
number_of kind None = None
number_of kind (Some found) = if (same_kinds.ghosts).eq found.1 kind then Some found.0 else None
