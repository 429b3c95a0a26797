-- Lists of runs: a walk list of a set of runs, in the order of the first difference.
use Rattle.std.specs.Prelude.{◌≡◌, ◌≢◌, List, [], ◌∷◌, ◌++◌, Some, ◌⊎◌, ◌↔◌}
use Rattle.loom_objects.specs.declared.choice.Choice.{Choice}
use Rattle.loom_objects.specs.Tree.Question.{Made, Among}
use Rattle.loom_engine.specs.Walk.Machine.{Machine}

abbrev pub Member : List Choice → List (List Choice) → Type 0
Member x [] = ⊥
Member x (y ∷ list) = (x ≡ y) ⊎ Member x list

-- no run is in the list twice
abbrev pub IsOnce : List (List Choice) → Type 0
IsOnce [] = Unit {0}
IsOnce (x ∷ list) = (Member x list → ⊥) × IsOnce list

-- the run x begins with the choices s
abbrev pub Begins : List Choice → List Choice → Type 0
Begins s x = (rest : List Choice) × (x ≡ s ++ rest)

abbrev pub Each : (List Choice → Type 0) → List (List Choice) → Type 0
Each P [] = Unit {0}
Each P (x ∷ list) = P x × Each P list

-- the runs that begin so stand together
pub record StandTogether (s : List Choice) (list : List (List Choice)) : Type 0 where
  pub front : List (List Choice)
  pub middle : List (List Choice)
  pub back : List (List Choice)
  pub splits : list ≡ front ++ middle ++ back
  pub not_front : Each (λ x. Begins s x → ⊥) front
  pub all_middle : Each (Begins s) middle
  pub not_back : Each (λ x. Begins s x → ⊥) back

-- A walk list of a set of runs holds each member once, and nothing else, and for each beginning the runs that share it
-- stand together.
pub record IsWalkList (S : List Choice → Type 0) (list : List (List Choice)) : Type 0 where
  pub members : (x : List Choice) → S x ↔ Member x list
  pub once : IsOnce list
  pub together : (s : List Choice) → StandTogether s list

-- of two options the one stands in front of the other
abbrev pub StandsBefore : Choice → Choice → List Choice → Type 0
StandsBefore a b [] = ⊥
StandsBefore a b (o ∷ os) = ((a ≡ o) × Among b os) ⊎ StandsBefore a b os

-- the default first, then the others as they are listed: rising threads, rising slots, false before true
abbrev pub ComesFirst : Made → Choice → Choice → Type 0
ComesFirst n a b = (b ≢ n.default) × ((a ≡ n.default) ⊎ StandsBefore a b n.options)

-- the runs x and y go apart at a node, where x takes the option that comes first
pub record Precedes (m : Machine) (x y : List Choice) : Type 0 where
  pub before : List Choice
  pub a : Choice
  pub b : Choice
  pub after_a : List Choice
  pub after_b : List Choice
  pub made : Made
  pub first : x ≡ before ++ a ∷ after_a
  pub second : y ≡ before ++ b ∷ after_b
  pub differ : a ≢ b
  pub met : m.node before ≡ Some made
  pub comes : ComesFirst made a b

abbrev pub IsInOrder : Machine → List (List Choice) → Type 0
IsInOrder m [] = Unit {0}
IsInOrder m (x ∷ list) = Each (Precedes m x) list × IsInOrder m list

-- each choice is an option where it comes
abbrev pub IsAllowed : Machine → List Choice → Type 0
IsAllowed m c = (before : List Choice) (o : Choice) (after : List Choice) → c ≡ before ++ o ∷ after → (n : Made) × (m.node before ≡ Some n) × Among o n.options
