-- A walk whose runs are made by others, of whom nothing is known but the paths that the runs begin with and leave.
use Rattle.std.specs.Prelude.{◌≡◌, ◌≢◌, Bool, true, List, [], ◌∷◌, ◌++◌, Some, None, ◌⊎◌}
use Rattle.loom_objects.specs.declared.choice.Choice.{Choice}
use Rattle.loom_engine.specs.Walk.Path.{Status, Skip, Pending, Active, Visited, Stored, choices, node_at, IsAtRest, step}
use Rattle.loom_objects.specs.Tree.Question.{Made}
use Rattle.loom_engine.specs.Walk.Lists.{Begins}

-- A run that began with the path p has left the path q: p's nodes with the same choices, of whose options only those
-- skipped may have changed, and new nodes at which nothing is visited yet.
pub record IsLeftBy (p q : List Stored) : Type 0 where
  pub kept : (before : List Choice) (n : Stored) → node_at p before ≡ Some n
      → (k : Stored) × (node_at q before ≡ Some k) × (k.made ≡ n.made) × (k.present ≡ n.present) × ((o : Choice) → n.status o ≢ Skip → k.status o ≡ n.status o)
  pub visited : (before : List Choice) (k : Stored) (o : Choice) → node_at q before ≡ Some k → k.status o ≡ Visited
      → (n : Stored) × (node_at p before ≡ Some n) × (n.status o ≡ Visited)
  pub rest : (before : List Choice) (k : Stored) → node_at q before ≡ Some k → IsAtRest k

-- rounds from the path p up to the last, with the paths that the runs left
pub data Driven : List Stored → List (List Stored) → Type 0 where
  last_run : (p q : List Stored) → IsLeftBy p q → step q ≡ None → Driven p (q ∷ [])
  one_run : (p q later : List Stored) (left : List (List Stored)) → IsLeftBy p q → step q ≡ Some later → Driven later left → Driven p (q ∷ left)

abbrev pub IsOneOf : List Stored → List (List Stored) → Type 0
IsOneOf q [] = ⊥
IsOneOf q (x ∷ list) = (q ≡ x) ⊎ IsOneOf q list

abbrev pub ToBeTried : Status → Type 0
ToBeTried s = (s ≡ Pending) ⊎ (s ≡ Active) ⊎ (s ≡ Visited)

-- Where a run's path has an option that is to be tried, some run begins with the choices before it and that option.
abbrev pub DrivenLaw : Type 0
DrivenLaw = (left : List (List Stored)) → Driven [] left → (q : List Stored) → IsOneOf q left
    → (before : List Choice) (n : Stored) (o : Choice) → node_at q before ≡ Some n → n.made.exploring ≡ true → ToBeTried (n.status o)
    → (x : List Stored) × IsOneOf x left × Begins (before ++ o ∷ []) (choices x)

-- the nodes that a path passes along these choices, without what may change about them
abbrev pub passes : List Stored → List Choice → List (Made × Choice)
passes [] before = []
passes (n ∷ p) [] = []
passes (n ∷ p) (c ∷ before) = (n.made, n.present) ∷ passes p before

-- A node at which each option was to be tried when it was made has none that is skipped.
abbrev pub HasNoSkip : (List (Made × Choice) → Bool) → List Stored → Type 0
HasNoSkip every p = (before : List Choice) (n : Stored) → node_at p before ≡ Some n → every (passes p before) ≡ true → (o : Choice) → n.status o ≢ Skip

-- the runs make new nodes so
abbrev pub MakesNoSkip : (List (Made × Choice) → Bool) → List Stored → List Stored → Type 0
MakesNoSkip every p q = (before : List Choice) (n : Stored) → node_at q before ≡ Some n → node_at p before ≡ None → every (passes q before) ≡ true → (o : Choice) → n.status o ≢ Skip

pub data EachMakesNoSkip (every : List (Made × Choice) → Bool) : List Stored → List (List Stored) → Type 0 where
  last_makes : (p q : List Stored) → MakesNoSkip every p q → EachMakesNoSkip every p (q ∷ [])
  one_makes : (p q later : List Stored) (left : List (List Stored)) → MakesNoSkip every p q → step q ≡ Some later → EachMakesNoSkip every later left → EachMakesNoSkip every p (q ∷ left)

-- Where the runs make new nodes so, by whatever test of the nodes that they pass, the paths that they leave keep it.
abbrev pub NoSkipLaw : Type 0
NoSkipLaw = (every : List (Made × Choice) → Bool) (left : List (List Stored)) → Driven [] left → EachMakesNoSkip every [] left
    → (q : List Stored) → IsOneOf q left → HasNoSkip every q
