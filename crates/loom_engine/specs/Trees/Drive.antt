-- How a path drives through a tree of runs.
use Rattle.std.specs.Prelude.{ℕ, zero, ◌+◌, ◌≡◌, Bool, true, false, ◌&&◌, cond, List, [], ◌∷◌, ◌++◌, map, take, length, nat_lt, nat_le, Option, Some, None, Result, Ok, Err, slice_get}
use Rattle.loom_objects.specs.declared.choice.Choice.{Choice}
use Rattle.loom_objects.specs.Tree.Question.{Made, Question, made_of}
use Rattle.loom_engine.specs.Walk.Machine.{is_thread, run}
use Rattle.loom_engine.specs.Walk.Choices.{same, among, pick}
use Rattle.loom_engine.specs.Walk.Path.{Status, Closed, Pending, Active, Visited, Stored, choices, IsResting, fresh, after_run, choose}
use Rattle.loom_engine.specs.Walk.UnderWay.{mark_with}
use Rattle.loom_views.specs.declared.rt.failure.FailureKind.{FailureKind}
use Rattle.loom_views.specs.declared.rt.failure.FailureKind.TheVariants.{NotDeterministic, TooManyBranches}
use Rattle.loom_engine.specs.Trees.Comparing.{same_made}
use Rattle.loom_objects.specs.Tree.Tree.{Tree, Gives, Fails, Closes, Asks}
use Rattle.loom_engine.specs.Trees.Outcomes.{outcome}
use Rattle.loom_engine.specs.Trees.Sound.{IsSoundTree}
use Rattle.loom_engine.specs.Trees.Meeting.{Settings, Marking, every_at, machine_of}
use Rattle.loom_engine.specs.Trees.Machines.{IsMarking}

-- the nodes, how many of them the run has passed, and the choices that new nodes take in turn
pub record Trail : Type 0 where
  pub nodes : List Stored
  pub position : ℕ
  pub given : List Choice

-- a node with the choice that was made there
abbrev pub pass_of : Stored → Made × Choice
pass_of n = (n.made, n.present)

abbrev pub passes_of : Trail → List (Made × Choice)
passes_of path = map pass_of (take path.position path.nodes)

-- what the path says: the choice, or why there is none
abbrev pub Answer : Type 0
Answer = Result Choice FailureKind × Trail

-- a stored node is passed, if it is the one that the question would make
abbrev pub follow : Trail → Question → Stored → Answer
follow path question n =
    pick (same_made n.made (made_of question)) (Ok n.present, record path { position = path.position + 1 }) (Err NotDeterministic, path)

-- the options before the one at hand were tried, those after it are to be tried
abbrev pub value_status : List Choice → Choice → Choice → Status
value_status [] x o = Closed
value_status (y ∷ options) x o =
    pick (same y x) (pick (same o x) Active (pick (among o options) Pending Closed))
    (pick (same o y) Visited (value_status options x o))

-- the new node at an option that was given
abbrev pub made_at : Bool → Made → Choice → Stored
made_at every n x =
    pick (same x n.default) (fresh every n)
    (cond (is_thread n.default) (choose (fresh every n) x) (record { made = n; present = x; status = value_status n.options x }))

-- the new node: at the choice that was given for its place, or at its default
abbrev pub new_node : Bool → Made → Option Choice → Option Stored
new_node every n None = Some (fresh every n)
new_node every n (Some x) = pick (among x n.options) (Some (made_at every n x)) None

-- a node is made at the end, and passed
abbrev pub lengthen : Trail → Option Stored → Answer
lengthen path None = (Err NotDeterministic, path)
lengthen path (Some n) = (Ok n.present, record path { nodes = path.nodes ++ n ∷ []; position = path.position + 1 })

abbrev pub make : Settings → Trail → Question → Answer
make s path question =
    cond (nat_lt path.position s.max_branches)
    (lengthen path (new_node (every_at s (passes_of path) (made_of question)) (made_of question) (slice_get path.given path.position)))
    (Err TooManyBranches, path)

abbrev pub branch_at : Settings → Trail → Question → Option Stored → Answer
branch_at s path question None = make s path question
branch_at s path question (Some n) = follow path question n

-- the stored node at the position answers, or a new one
abbrev pub branch : Settings → Trail → Question → Answer
branch s path question = branch_at s path question (slice_get path.nodes path.position)

-- in a reduced search a question makes its marks first
abbrev pub marked : Bool → (ℕ → Choice → Bool) → List Stored → List Stored
marked true marks nodes = mark_with marks zero nodes
marked false marks nodes = nodes

abbrev pub backtrack : Settings → Marking → Trail → Question → Trail
backtrack s adds path question = record path { nodes = marked s.reduce (adds (passes_of path) question) path.nodes }

-- whether the run has met all that the path holds
abbrev pub is_used_up : Trail → Bool
is_used_up path = nat_le (length path.nodes) path.position && nat_le (length path.given) path.position

module _ {A : Type 0} where
  -- goes on by what the path says
  abbrev pub drive_on : (Choice → Trail → Result A FailureKind × Trail) → Answer → Result A FailureKind × Trail
  drive_on go (Ok choice, after) = go choice after
  drive_on go (Err failure, after) = (Err failure, after)

  -- the way through a tree that a path takes: its outcome, and the path after it
  abbrev pub drive : Settings → Marking → Tree A → Trail → Result A FailureKind × Trail
  drive s adds (Gives value) path = (Ok value, path)
  drive s adds (Fails failure) path = (Err failure, path)
  drive s adds (Closes rest) path = cond (is_used_up path) (drive s adds rest path) (Err NotDeterministic, path)
  drive s adds (Asks question branches) path =
      drive_on (λ choice after. drive s adds (branches choice) after) (branch s (backtrack s adds path question) question)

-- the path before a run
abbrev pub at_start : List Stored → Trail
at_start nodes = record { nodes = nodes; position = 0; given = [] }

-- the path when all its nodes were passed
abbrev pub at_end : List Stored → Trail
at_end nodes = record { nodes = nodes; position = length nodes; given = [] }

module _ {A : Type 0} (s : Settings) (adds : Marking) (tree : Tree A) where
  -- A path that drives through the tree has the outcome of its run, and is left as it is to be after that run.
  pub record IsDriven (nodes : List Stored) : Type 0 where
    pub comes : Result A FailureKind
    pub drives : drive s adds tree (at_start nodes) ≡ (comes, at_end (after_run (machine_of s adds tree) nodes))
    pub is_run : choices (after_run (machine_of s adds tree) nodes) ≡ run (machine_of s adds tree) (choices nodes)
    pub outcome : outcome s.max_branches tree (run (machine_of s adds tree) (choices nodes)) ≡ Some comes

-- A path whose nodes are those that the tree asks for drives through it.
abbrev pub DriveLaw : Type 0 → Type 0
DriveLaw A = (s : Settings) (adds : Marking) (tree : Tree A) (nodes : List Stored) → IsSoundTree tree → IsMarking adds
    → IsResting (machine_of s adds tree) nodes → IsDriven s adds tree nodes
