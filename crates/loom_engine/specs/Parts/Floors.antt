-- A part as a program may hold it: a path like any other, and a number, its floor. Of the nodes below the floor the path may
-- know what it likes; the walk's rules see them sealed.
use Rattle.std.specs.Prelude.{ℕ, zero, suc, ◌≡◌, ◌≤◌, true, List, [], ◌∷◌, ◌++◌, length, Option, Some, None, ◌↔◌}
use Rattle.loom_objects.specs.declared.choice.Choice.{Choice}
use Rattle.loom_engine.specs.Walk.Machine.{Machine}
use Rattle.loom_engine.specs.Walk.Sound.{IsMachine}
use Rattle.loom_engine.specs.Walk.Path.{Pending, Stored, choices, node_at, IsAtRest, IsResting, choose, after_run, step, next}
use Rattle.loom_engine.specs.Walk.Walks.{Completes}
use Rattle.loom_engine.specs.Walk.Lists.{Member}
use Rattle.loom_engine.specs.Parts.Cuts.{Part, IsPart, seal, seal_at, Search}

-- the path with its first nodes sealed, so many of them
abbrev pub seal_to : ℕ → List Stored → List Stored
seal_to zero p = p
seal_to (suc k) [] = []
seal_to (suc k) (n ∷ p) = seal n ∷ seal_to k p

-- the deepest node that can go on does, but none of the first nodes
unfoldable pub step_above : ℕ → List Stored → Option (List Stored)
step_above zero p = step p
step_above (suc k) [] = None
step_above (suc k) (n ∷ p) = elim (step_above k p) [ Some deeper ↦ Some (n ∷ deeper) | None ↦ None ]

abbrev pub if_sealed : ℕ → Option (List Stored) → Option (List Stored)
if_sealed k None = None
if_sealed k (Some p) = Some (seal_to k p)

-- A run and a step above the floor, with all of the run's marks as ever, are a round of the sealed path.
abbrev pub FloorLaw : Type 0
FloorLaw = (m : Machine) (k : ℕ) (p : List Stored) → k ≤ length p → next m (seal_to k p) ≡ if_sealed k (step_above k (after_run m p))

-- Any path at rest and any beginning of it is a part.
abbrev pub PartLaw : Type 0
PartLaw = (m : Machine) (b e : List Choice) (p : List Stored) → IsResting m p → choices p ≡ b ++ e → IsPart m b (seal_to (length b) p)

-- To raise the floor is to raise the number.
abbrev pub RaiseLaw : Type 0
RaiseLaw = (b : List Choice) (p : List Stored) (n : Stored) → node_at p b ≡ Some n
    → (node_at (seal_to (length b) p) b ≡ Some n) × (seal_at b (seal_to (length b) p) ≡ seal_to (suc (length b)) p)

-- the path that ends at its node of this number, with another choice there
abbrev pub branch_off : ℕ → Choice → List Stored → List Stored
branch_off k o [] = []
branch_off zero o (n ∷ p) = choose n o ∷ []
branch_off (suc k) o (n ∷ p) = n ∷ branch_off k o p

-- An option that is to be tried at any node of a path leads to a path at rest.
abbrev pub BranchLaw : Type 0
BranchLaw = (m : Machine) (p : List Stored) (before : List Choice) (n : Stored) (o : Choice) → IsResting m p → node_at p before ≡ Some n → n.made.exploring ≡ true → n.status o ≡ Pending
    → IsResting m (branch_off (length before) o p) × (choices (branch_off (length before) o p) ≡ before ++ o ∷ [])

-- the path that ends at its node of this number, with another in its place
abbrev pub end_with : ℕ → Stored → List Stored → List Stored
end_with k next [] = []
end_with zero next (n ∷ p) = next ∷ []
end_with (suc k) next (n ∷ p) = n ∷ end_with k next p

-- Any node at rest that was made alike may be there.
abbrev pub EndLaw : Type 0
EndLaw = (m : Machine) (p : List Stored) (before : List Choice) (n next : Stored) → IsResting m p → node_at p before ≡ Some n → next.made ≡ n.made → IsAtRest next
    → IsResting m (end_with (length before) next p) × (choices (end_with (length before) next p) ≡ before ++ next.present ∷ [])

-- A search in parts makes no more runs than the one that isn't cut, and when it is over just these.
abbrev pub SameLaw : Type 0
SameLaw = (m : Machine) (list made : List (List Choice)) (parts : List Part) (issued notes : List (List Choice)) → IsMachine m → Completes m [] list → Search m made parts issued notes
    → (length made ≤ length list)
    × (parts ≡ [] → notes ≡ [] → ((x : List Choice) → Member x made ↔ Member x list) × (length made ≡ length list))
