-- A search that is cut into parts, which are worked on in any order.
use Rattle.std.specs.Prelude.{◌≡◌, ◌≢◌, true, false, cond, List, [], ◌∷◌, ◌++◌, map, Some, None, ◌⊎◌, ◌↔◌}
use Rattle.loom_objects.specs.declared.choice.Choice.{Choice}
use Rattle.loom_engine.specs.Walk.Machine.{Machine}
use Rattle.loom_engine.specs.Walk.Sound.{IsMachine}
use Rattle.loom_engine.specs.Walk.Runs.{Alternative, Reachable}
use Rattle.loom_engine.specs.Walk.Path.{Status, Closed, Skip, Pending, Active, Visited, Stored, choices, node_at, IsResting, Rest, next}
use Rattle.loom_engine.specs.Walk.Walks.{run_of}
use Rattle.loom_engine.specs.Walk.Lists.{Member, IsOnce, Begins}

-- A part: a path, whose nodes along the choices base are fixed. The number of these is the part's floor.
pub record Part : Type 0 where
  pub base : List Choice
  pub path : List Stored

-- the choices before are those before one of b
abbrev pub IsBelow : List Choice → List Choice → Type 0
IsBelow before b = (c : Choice) × (e : List Choice) × (b ≡ before ++ c ∷ e)

-- What a part is: its path rests and begins with its base, and at the nodes along the base nothing is to be tried, and
-- no mark can change that. So what is left from the path, as the walk has it, lies above the floor.
pub record IsPart (m : Machine) (b : List Choice) (p : List Stored) : Type 0 where
  pub resting : IsResting m p
  pub begins : (e : List Choice) × (choices p ≡ b ++ e)
  pub sealed : (before : List Choice) (n : Stored) (o : Choice) → node_at p before ≡ Some n → IsBelow before b → n.made.exploring ≡ true → (n.status o ≢ Pending) × (n.status o ≢ Skip)

abbrev pub IsIn : Part → List Part → Type 0
IsIn q [] = ⊥
IsIn q (x ∷ parts) = (q ≡ x) ⊎ IsIn q parts

-- a node of which no option is to be tried by this part: each is present or given away
abbrev pub sealed_status : Status → Status
sealed_status Closed = Closed
sealed_status Skip = Visited
sealed_status Pending = Visited
sealed_status Active = Active
sealed_status Visited = Visited

abbrev pub seal : Stored → Stored
seal n = record n { status = λ o. cond n.made.exploring (sealed_status (n.status o)) (n.status o) }

-- the path with its node after so many choices sealed
abbrev pub seal_at : List Choice → List Stored → List Stored
seal_at b [] = []
seal_at [] (n ∷ p) = seal n ∷ p
seal_at (c ∷ b) (n ∷ p) = n ∷ seal_at b p

-- What is noted when a run of a part is over, where these notes were made before: of the nodes along the base, the run's
-- alternatives there. Those that were handed out may be noted or not, and those at a node where each option is to be tried
-- anyway need not be.
pub record AreNotes (m : Machine) (b r : List Choice) (issued notes more : List (List Choice)) : Type 0 where
  pub only : (k : List Choice) → Member k more
      → Member k notes ⊎ ((before : List Choice) × (o : Choice) × (k ≡ before ++ o ∷ []) × IsBelow before b × (Member k issued ⊎ Alternative m r before o))
  pub old : (k : List Choice) → Member k notes → Member k more ⊎ Member k issued
  pub each : (before : List Choice) (o : Choice) → IsBelow before b → Alternative m r before o → m.every before ≡ false → Member (before ++ o ∷ []) more ⊎ Member (before ++ o ∷ []) issued

abbrev pub IsTried : Stored → Choice → Type 0
IsTried n o = (n.status o ≡ Active) ⊎ (n.status o ≡ Visited)

-- the options of the node n, after the choices b, that were tried or are present
abbrev pub AreTaken : List Choice → Stored → List (List Choice) → Type 0
AreTaken b n list = (k : List Choice) → Member k list ↔ ((o : Choice) × (k ≡ b ++ o ∷ []) × IsTried n o)

-- and those that are to be tried
abbrev pub AreOpen : List Choice → Stored → List (List Choice) → Type 0
AreOpen b n list = (k : List Choice) → Member k list ↔ ((o : Choice) × (k ≡ b ++ o ∷ []) × (n.made.exploring ≡ true) × (n.status o ≡ Pending))

-- one list without k
abbrev pub IsWithout : List Choice → List (List Choice) → List (List Choice) → Type 0
IsWithout k list less = (j : List Choice) → Member j list ↔ ((j ≡ k) ⊎ Member j less)

-- How far a search in parts may be: the runs made, the parts, the options handed out, and the options that are to be
-- handed out unless they were. An option is the choices before it and itself, so the trunk is the list of those handed out.
pub data Search (m : Machine) : List (List Choice) → List Part → List (List Choice) → List (List Choice) → Type 0 where
  -- it begins with one part, the path without nodes, of which nothing is fixed
  begin : Search m [] (record { base = []; path = [] } ∷ []) [] []
  -- any part may be worked on
  turn : (made : List (List Choice)) (front back : List Part) (q : Part) (issued notes : List (List Choice)) → Search m made (front ++ q ∷ back) issued notes
      → Search m made (q ∷ front ++ back) issued notes
  -- a run of the part, after which there is a next one
  one_run : (made : List (List Choice)) (b : List Choice) (p p' : List Stored) (parts : List Part) (issued notes more : List (List Choice))
      → Search m made (record { base = b; path = p } ∷ parts) issued notes → next m p ≡ Some p' → AreNotes m b (run_of m p) issued notes more
      → Search m (run_of m p ∷ made) (record { base = b; path = p' } ∷ parts) issued more
  -- the part's last run
  last_run : (made : List (List Choice)) (b : List Choice) (p : List Stored) (parts : List Part) (issued notes more : List (List Choice))
      → Search m made (record { base = b; path = p } ∷ parts) issued notes → next m p ≡ None → AreNotes m b (run_of m p) issued notes more
      → Search m (run_of m p ∷ made) parts issued more
  -- The part's floor is raised above one more node. What was tried there is handed out, and what is to be tried is noted.
  raise : (made : List (List Choice)) (b : List Choice) (p : List Stored) (n : Stored) (parts : List Part) (issued notes taken open_ones : List (List Choice))
      → Search m made (record { base = b; path = p } ∷ parts) issued notes → node_at p b ≡ Some n → AreTaken b n taken → AreOpen b n open_ones
      → Search m made (record { base = b ++ n.present ∷ []; path = seal_at b p } ∷ parts) (taken ++ issued) (open_ones ++ notes)
  -- what was noted and wasn't handed out becomes a part of its own, of whose nodes all are fixed
  hand_out : (made : List (List Choice)) (k : List Choice) (p : List Stored) (parts : List Part) (issued notes less : List (List Choice))
      → Search m made parts issued notes → Member k notes → (Member k issued → ⊥) → IsPart m k p → choices p ≡ k → IsWithout k notes less
      → Search m made (record { base = k; path = p } ∷ parts) (k ∷ issued) less
  -- what was handed out is noted in vain
  drop_note : (made : List (List Choice)) (k : List Choice) (parts : List Part) (issued notes less : List (List Choice))
      → Search m made parts issued notes → Member k issued → IsWithout k notes less → Search m made parts issued less

-- In a search that isn't reduced no run notes anything, so its parts have nothing to do with each other.
abbrev pub WholeLaw : Type 0
WholeLaw = (m : Machine) (b r : List Choice) (issued notes : List (List Choice)) → m.reduce ≡ false → AreNotes m b r issued notes notes

-- Whatever the order, no run is made twice, each is reachable, and when no part is left and nothing noted the runs made
-- are all that are reachable.
abbrev pub SearchLaw : Type 0
SearchLaw = (m : Machine) (made : List (List Choice)) (parts : List Part) (issued notes : List (List Choice)) → IsMachine m → Search m made parts issued notes
    → IsOnce made × ((x : List Choice) → Member x made → Reachable m x)
    × (parts ≡ [] → notes ≡ [] → (x : List Choice) → Reachable m x ↔ Member x made)

-- At each moment, what is left from the parts' paths, as the walk has it, is reachable and begins with their bases; no run of
-- it was made, and no two parts have one in common.
abbrev pub DisjointLaw : Type 0
DisjointLaw = (m : Machine) (made : List (List Choice)) (parts : List Part) (issued notes : List (List Choice)) → IsMachine m → Search m made parts issued notes
    → IsOnce (map (λ (q : Part). q.base) parts)
    × ((q : Part) → IsIn q parts → (x : List Choice) → Rest m q.path x → Reachable m x × Begins q.base x × (Member x made → ⊥))
    × ((q d : Part) → IsIn q parts → IsIn d parts → (x : List Choice) → Rest m q.path x → Rest m d.path x → q.base ≡ d.base)
