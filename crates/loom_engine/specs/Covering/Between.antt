-- The ways that runs went between the states that were noted, by the states' numbers, and to their ends.
use Rattle.std.specs.Prelude.{ℕ, suc, ◌≡◌, ◌<◌, ◌≤◌, ◌⊎◌, Bool, true, false, List, [], ◌∷◌, ◌++◌, length, slice_get, slice_set, Option, Some, None}
use Rattle.std.specs.List.{Contains}
use Rattle.loom_objects.specs.declared.choice.Choice.{Choice}
use Rattle.loom_engine.specs.declared.rt.states.ways.Way.{Way}
use Rattle.loom_engine.specs.Walk.Path.{Stored, choices}

-- The ways that runs went, and the states that the last run passed.
pub record Tracks : Type 0 where
  pub ways : List Way
  pub passed : List ℕ

module _ (led_by : List (List Choice)) where
  -- who makes these choices passes the state of this number: they begin with those that led a run to it
  pub record Passes (made : List Choice) (number : ℕ) : Type 0 where
    pub there : List Choice
    pub rest : List Choice
    pub led : slice_get led_by number ≡ Some there
    pub begins : made ≡ there ++ rest

  -- the way is from a state that is passed to one that is passed later
  pub record IsWithin (made : List Choice) (way : Way) : Type 0 where
    pub next : ℕ
    pub there : List Choice
    pub goes : way.to ≡ Some next
    pub led : slice_get led_by next ≡ Some there
    pub before : Passes there way.from
    pub after : Passes made next

  -- It is a way of a run that made these choices and reached the state of this number, or its end: from a state that it passed to there,
  -- or to one that it passed later.
  abbrev pub IsOfRun : List Choice → Option ℕ → Way → Type 0
  IsOfRun made to way = (Passes made way.from × (way.to ≡ to)) ⊎ IsWithin made way

  -- the ways of such a run are added, or some that it went before it came there
  abbrev pub AddsRun : List Choice → Option ℕ → List Way → List Way → Type 0
  AddsRun made to old new = (way : Way) → Contains new way → Contains old way ⊎ IsOfRun made to way

  abbrev pub AddsWithin : List Choice → List Way → List Way → Type 0
  AddsWithin made old new = (way : Way) → Contains new way → Contains old way ⊎ IsWithin made way

-- there is a way from this state to there
abbrev pub Goes : List Way → ℕ → Option ℕ → Type 0
Goes ways from to = (way : Way) × Contains ways way × (way.from ≡ from) × (way.to ≡ to)

-- these states are linked, each to the next one by a way
abbrev pub Linked : List Way → List ℕ → Type 0
Linked ways [] = Unit {0}
Linked ways (n ∷ []) = Unit {0}
Linked ways (n ∷ m ∷ passed) = Goes ways n (Some m) × Linked ways (m ∷ passed)

-- from the state of this number ways lead there, to another state or to an end, by states of which there are so many
pub data Leads (ways : List Way) (count : ℕ) (to : Option ℕ) : ℕ → Type 0 where
  straight : (n : ℕ) → Goes ways n to → Leads ways count to n
  through : (n next : ℕ) → Goes ways n (Some next) → next < count → Leads ways count to next → Leads ways count to n

module _ (led_by : List (List Choice)) (made : List Choice) where
  -- the last state that was passed, if such a run passes it
  abbrev pub IsLastPassed : List ℕ → Option ℕ → Type 0
  IsLastPassed passed None = (front : List ℕ) (n : ℕ) → passed ≡ front ++ n ∷ [] → Passes led_by made n → ⊥
  IsLastPassed passed (Some n) = ((front : List ℕ) × (passed ≡ front ++ n ∷ [])) × Passes led_by made n

  -- states that such a run hasn't passed are left, from the last one back
  pub record LeavesOthers (old new : Tracks) : Type 0 where
    pub ways : new.ways ≡ old.ways
    pub left : List ℕ
    pub front : old.passed ≡ new.passed ++ left
    pub others : (n : ℕ) → Contains left n → Passes led_by made n → ⊥
    pub last : (front : List ℕ) (n : ℕ) → new.passed ≡ front ++ n ∷ [] → Passes led_by made n

  -- one more state is passed, with a way from the last one before it, if that is passed on the way there
  pub record HasPassed (number : ℕ) (old new : Tracks) : Type 0 where
    pub passes : Passes led_by made number
    pub keeps : (way : Way) → Contains old.ways way → Contains new.ways way
    pub passed : new.passed ≡ old.passed ++ number ∷ []
    pub linked : (front : List ℕ) (last : ℕ) (there : List Choice) → old.passed ≡ front ++ last ∷ [] → slice_get led_by number ≡ Some there → Passes led_by there last → Goes new.ways last (Some number)

  -- it is passed, or isn't, and then nothing changes
  abbrev pub PassesOn : ℕ → Tracks → Tracks → Type 0
  PassesOn number old new = HasPassed number old new ⊎ ((Passes led_by made number → ⊥) × (new ≡ old))

  -- What is noted by the run, from this number on, is passed by it after what was noted before it, each later than those before.
  pub record AreInOrder (first : ℕ) (passed : List ℕ) : Type 0 where
    pub before : (n m : ℕ) (c d : List Choice) → Contains passed n → Passes led_by made n → first ≤ m → slice_get led_by n ≡ Some c → slice_get led_by m ≡ Some d → length c ≤ length d
    pub within : (n m : ℕ) (c d : List Choice) → first ≤ n → n < m → slice_get led_by n ≡ Some c → slice_get led_by m ≡ Some d → length c ≤ length d

  -- where such a run begins: the states that were passed are linked, and it meets the others in order
  pub record IsReady (first : ℕ) (old : Tracks) : Type 0 where
    pub low : first ≤ length led_by
    pub linked : Linked old.ways old.passed
    pub within : (n : ℕ) → Contains old.passed n → n < length led_by
    pub order : AreInOrder first old.passed

  -- Each state that such a run passes, of those that were passed and of those from this number on, leads to where it came.
  pub record IsWhole (first : ℕ) (to : Option ℕ) (old new : Tracks) : Type 0 where
    pub keeps : (way : Way) → Contains old.ways way → Contains new.ways way
    pub linked : Linked new.ways new.passed
    pub within : (n : ℕ) → Contains new.passed n → n < length led_by
    pub passed : (n : ℕ) → Contains old.passed n ⊎ ((first ≤ n) × (n < length led_by)) → Passes led_by made n → Contains new.passed n × Leads new.ways (length led_by) to n

-- the run that left this path was cut off in the state of this number
pub record EndsAt {K : Type 0} (key : List Choice → K) (led_by : List (List Choice)) (q : List Stored) (number : ℕ) : Type 0 where
  pub there : List Choice
  pub led : slice_get led_by number ≡ Some there
  pub same : key (choices q) ≡ key there

module _ (ways : List Way) (count : ℕ) where
  -- the first state from which no way leads to a run's end, if there is one
  abbrev pub IsFirstLost : Option ℕ → Type 0
  IsFirstLost None = (n : ℕ) → n < count → Leads ways count None n
  IsFirstLost (Some lost) = (lost < count) × (Leads ways count None lost → ⊥) × ((n : ℕ) → n < lost → Leads ways count None n)

  -- only states are set from which one does
  abbrev pub AreReaching : List Bool → Type 0
  AreReaching set = (n : ℕ) → slice_get set n ≡ Some true → Leads ways count None n

-- the way leads to an end, or to a state that is set
abbrev pub LeadsToSet : List Bool → Option ℕ → Type 0
LeadsToSet set None = Unit {0}
LeadsToSet set (Some next) = slice_get set next ≡ Some true

-- so the state from which it leads is set too
abbrev pub IsClosed : List Bool → Way → Type 0
IsClosed set way = LeadsToSet set way.to → way.from < length set → slice_get set way.from ≡ Some true

abbrev pub AreClosed : List Bool → List Way → Type 0
AreClosed set ways = (way : Way) → Contains ways way → IsClosed set way

-- how many are unset
abbrev pub unset : List Bool → ℕ
unset [] = 0
unset (true ∷ set) = unset set
unset (false ∷ set) = suc (unset set)

-- the state from which the way leads is set by it
pub record IsSetBy (way : Way) (old new : List Bool) : Type 0 where
  pub leads : LeadsToSet old way.to
  pub was : slice_get old way.from ≡ Some false
  pub is : new ≡ slice_set old way.from true

-- the first that is unset, if there is one
abbrev pub IsFirstUnset : List Bool → Option ℕ → Type 0
IsFirstUnset set None = (n : ℕ) → n < length set → slice_get set n ≡ Some true
IsFirstUnset set (Some number) = (slice_get set number ≡ Some false) × ((n : ℕ) → n < number → slice_get set n ≡ Some true)
