-- A path of nodes with the state of each option, and what is left to be done from it.
use Rattle.std.specs.Prelude.{ℕ, zero, suc, ◌≡◌, ◌≢◌, Bool, true, false, cond, ◌&&◌, List, [], ◌∷◌, ◌++◌, map, Option, Some, None, ◌⊎◌, IsSomeAnd}
use Rattle.loom_objects.specs.declared.choice.Choice.{Choice}
use Rattle.loom_objects.specs.Tree.Question.{Made, Among}
use Rattle.loom_engine.specs.Walk.Machine.{Machine, is_thread, run}
use Rattle.loom_engine.specs.Walk.Runs.{Alternative}
use Rattle.loom_engine.specs.Walk.Choices.{same, among, pick}

-- Closed: no option (a thread that is disabled or yields). Skip: not to be tried as far as is known.
-- Pending: to be tried. Active: the present choice. Visited: tried.
pub data Status : Type 0 where
  Closed Skip Pending Active Visited : Status

-- a node that the path keeps
pub record Stored : Type 0 where
  pub made : Made
  pub present : Choice
  pub status : Choice → Status

abbrev pub choices : List Stored → List Choice
choices p = map (λ n. n.present) p

-- the node that the path has after just these choices
unfoldable pub node_at : List Stored → List Choice → Option Stored
node_at [] before = None
node_at (n ∷ p) [] = Some n
node_at (n ∷ p) (c ∷ before) = pick (same c n.present) (node_at p before) None

-- a node between two runs
pub record IsAtRest (n : Stored) : Type 0 where
  pub active : n.status n.present ≡ Active
  pub one : (o : Choice) → n.status o ≡ Active → o ≡ n.present
  pub default : (n.status n.made.default ≡ Active) ⊎ (n.status n.made.default ≡ Visited)
  pub opened : (o : Choice) → Among o n.made.options → n.status o ≢ Closed
  pub closed : (o : Choice) → n.status o ≢ Closed → Among o n.made.options
  -- at a load or a spurious wake-up each option is to be tried
  pub values : is_thread n.made.default ≡ false → (o : Choice) → n.status o ≢ Skip
  -- where the run doesn't explore the default is the choice, and no thread is to be tried
  pub fixed : n.made.exploring ≡ false → (n.present ≡ n.made.default) × ((o : Choice) → n.status o ≢ Visited) × (is_thread n.made.default ≡ true → (o : Choice) → n.status o ≢ Pending)

-- the path's nodes are those that the machine meets, and at rest
pub record IsResting (m : Machine) (p : List Stored) : Type 0 where
  pub meets : (before : List Choice) (n : Stored) → node_at p before ≡ Some n → m.node before ≡ Some n.made
  pub rest : (before : List Choice) (n : Stored) → node_at p before ≡ Some n → IsAtRest n

-- What alternatives leave out at a node of the path: the present choice, what was tried, and in a search that isn't
-- reduced what is skipped
abbrev pub IsBarred : Machine → Status → Type 0
IsBarred m Closed = ⊥
IsBarred m Skip = m.reduce ≡ false
IsBarred m Pending = ⊥
IsBarred m Active = Unit {0}
IsBarred m Visited = Unit {0}

abbrev pub IsLeftOut : Machine → List Stored → List Choice → Choice → Type 0
IsLeftOut m p before o = IsSomeAnd (node_at p before) (λ n. IsBarred m (n.status o))

-- what is left to be done from the path p
pub data Rest (m : Machine) (p : List Stored) : List Choice → Type 0 where
  by_path : Rest m p (run m (choices p))
  by_pending : (before : List Choice) (n : Stored) (o : Choice) → node_at p before ≡ Some n → n.made.exploring ≡ true → n.status o ≡ Pending
      → Rest m p (run m (before ++ o ∷ []))
  by_alternative : (r before : List Choice) (o : Choice) → Rest m p r → Alternative m r before o → (IsLeftOut m p before o → ⊥)
      → Rest m p (run m (before ++ o ∷ []))

-- an option of a new node
abbrev pub first_status : Bool → Made → Choice → Status
first_status every n o = pick (same o n.default) Active (pick (among o n.options) (cond every Pending Skip) Closed)

abbrev pub fresh : Bool → Made → Stored
fresh every n = record { made = n; present = n.default; status = first_status every n }

-- the nodes that a run makes past the end of the path, after these choices
unfoldable pub new_nodes : Machine → ℕ → List Choice → List Stored
new_nodes m zero c = []
new_nodes m (suc fuel) c = elim (m.node c) [ None ↦ [] | Some n ↦ fresh (m.every c) n ∷ new_nodes m fuel (c ++ n.default ∷ []) ]

abbrev pub mark_status : Bool → Status → Status
mark_status to_try Skip = cond to_try Pending Skip
mark_status to_try s = s

-- the marks of the run r at its node k
abbrev pub mark : Machine → List Choice → ℕ → Stored → Stored
mark m r k n = record n { status = λ o. mark_status (m.reduce && m.marks r k o) (n.status o) }

abbrev pub mark_all : Machine → List Choice → ℕ → List Stored → List Stored
mark_all m r k [] = []
mark_all m r k (n ∷ p) = mark m r k n ∷ mark_all m r (suc k) p

-- the path when the run that follows it is over
abbrev pub after_run : Machine → List Stored → List Stored
after_run m p = mark_all m (run m (choices p)) zero (p ++ new_nodes m m.limit (choices p))

abbrev pub first_pending : (Choice → Status) → List Choice → Option Choice
first_pending status [] = None
first_pending status (o ∷ os) = elim (status o) [ Pending ↦ Some o | _ ↦ first_pending status os ]

abbrev pub choose : Stored → Choice → Stored
choose n o = record n { present = o; status = λ x. pick (same x n.present) Visited (pick (same x o) Active (n.status x)) }

-- the node with its next choice, if it explores and one is pending
abbrev pub advance : Stored → Option Stored
advance n = cond n.made.exploring (elim (first_pending n.status n.made.options) [ None ↦ None | Some o ↦ Some (choose n o) ]) None

-- the deepest node that can go on does, and what follows it is dropped
unfoldable pub step : List Stored → Option (List Stored)
step [] = None
step (n ∷ p) = elim (step p) [ Some deeper ↦ Some (n ∷ deeper) | None ↦ elim (advance n) [ None ↦ None | Some next ↦ Some (next ∷ []) ] ]

-- the path that the next run follows
abbrev pub next : Machine → List Stored → Option (List Stored)
next m p = step (after_run m p)
