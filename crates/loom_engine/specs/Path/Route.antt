-- A path as its callers see it, and what it says to a run.
use Rattle.std.specs.Prelude.{ℕ, ◌≡◌, ◌≢◌, ◌<◌, ◌+◌, Bool, true, List, [], length, take, Option, Some, None, slice_get, Result, Ok, Err, ⊤}
use Rattle.std.specs.Option.{option_map}
use Rattle.loom_views.specs.declared.rt.failure.FailureKind.{FailureKind}
use Rattle.loom_views.specs.declared.rt.failure.FailureKind.TheVariants.{NotDeterministic}
use Rattle.loom_objects.specs.declared.choice.Choice.{Choice}
use Rattle.loom_objects.specs.declared.choice.Choice.TheVariants.{Load}
use Rattle.loom_objects.specs.declared.failure.Stop.{Stop}
use Rattle.loom_objects.specs.declared.failure.Stop.TheVariants.{Failure, Memory}
use Rattle.loom_objects.specs.Tree.Asked.{which_thread}
use Rattle.loom_objects.specs.Exploring.{initially, switched}
use Rattle.loom_objects.specs.Tree.Question.{Question}
use Rattle.loom_objects.specs.declared.operation.ExploreOp.{ExploreOp}
use Rattle.loom_objects.specs.declared.rt.exploring.Exploring.{Exploring}
use Rattle.loom_objects.specs.declared.rt.schedule.Offers.{Offers}
use Rattle.loom_objects.specs.Tree.Tree.{Tree}
use Rattle.loom_engine.specs.declared.rt.path.node.Node.{Node}
use Rattle.loom_engine.specs.declared.rt.path.Search.{Search}
use Rattle.loom_engine.specs.Walk.Path.{choices}
use Rattle.loom_engine.specs.Trees.Meeting.{Settings}
use Rattle.loom_engine.specs.Trees.Drive.{Trail, branch, drive, backtrack}
use Rattle.loom_engine.specs.Trees.Marks.{marking}
pub use Rattle.loom_engine.specs.Path.Nodes.{stored}
pub use Rattle.loom_engine.specs.Path.Steps.{Steps}

-- the settings of its search, and whether its runs begin to explore; the nodes, how many of them the run has passed, whether it
-- explores at those that come, and the choices that new nodes take in turn
pub record Route : Type 0 where
  pub search : Settings
  pub explores : Bool
  pub nodes : List Node
  pub position : ℕ
  pub exploring : Exploring
  pub given : List Choice

-- the settings of a walk that such a search has
abbrev pub settings : Search → Settings
settings search = record { reduce = search.reduce; bound = search.bound; max_branches = search.max_branches }

-- between two runs
abbrev pub at_rest : Settings → Bool → List Node → Route
at_rest search explores nodes = record { search = search; explores = explores; nodes = nodes; position = 0; exploring = initially explores; given = [] }

-- before a run, which begins to explore or doesn't
abbrev pub IsAtStart : Bool → Route → Type 0
IsAtStart explores route = (route.position ≡ 0) × (route.explores ≡ explores) × (route.exploring ≡ initially explores)

-- the settings, how its runs begin, and the given choices stay as they are
abbrev pub IsSameSearch : Route → Route → Type 0
IsSameSearch old new = (new.search ≡ old.search) × (new.explores ≡ old.explores) × (new.given ≡ old.given)

-- and so does whether the run explores
abbrev pub IsSame : Route → Route → Type 0
IsSame old new = IsSameSearch old new × (new.exploring ≡ old.exploring)

-- the run explores from now on, or doesn't, as the switch says; where that would change nothing it fails, and the path stays as
-- it was
abbrev pub SwitchesAs : Result Exploring FailureKind → Route → Result ⊤ FailureKind → Route → Type 0
SwitchesAs (Ok exploring) old result new = (result ≡ Ok tt) × (new ≡ record old { exploring = exploring })
SwitchesAs (Err kind) old result new = (result ≡ Err kind) × (new ≡ old)

abbrev pub Switches : Route → ExploreOp → Result ⊤ FailureKind → Route → Type 0
Switches old op result new = SwitchesAs (switched op old.exploring) old result new

-- the path as a walk sees it
abbrev pub trail : Route → Trail
trail route = record { nodes = stored route.nodes; position = route.position; given = route.given }

-- the choices at the nodes that the run has passed
abbrev pub chosen : Route → List Choice
chosen route = choices (take route.position (stored route.nodes))

-- a node is made on the way, for which memory may be refused
abbrev pub Grows : Route → Trail → Type 0
Grows old after = length old.nodes < length after.nodes

-- memory was refused for the node that answers the question: the path stays as it was
abbrev pub IsShort : Route → Question → Route → Type 0
IsShort old question new = (new ≡ old) × Grows old (branch old.search (trail old) question).1

module _ {A : Type 0} (choice : A → Choice) where
  -- The path answers the question by what stands for a choice, and passes the node; or it refuses, and stays as it was.
  abbrev pub Decides : Route → Question → Result A Stop → Route → Type 0
  Decides old question (Ok answer) new = branch old.search (trail old) question ≡ (Ok (choice answer), trail new)
  Decides old question (Err (Failure failure)) new = (branch old.search (trail old) question ≡ (Err failure.kind, trail old)) × (new ≡ old)
  Decides old question (Err Memory) new = IsShort old question new

-- the choice at the position, if a node is there
abbrev pub choice_here : Route → Option Choice
choice_here route = option_map (λ n. n.present) (slice_get (stored route.nodes) route.position)

-- the path when one node more is passed
abbrev pub passed : Trail → Trail
passed path = record path { position = path.position + 1 }

-- The node that answers the question is at the position, and isn't passed; or the path refuses, and stays as it was.
abbrev pub Pushes : Route → Question → Result ⊤ Stop → Route → Type 0
Pushes old question (Ok done) new =
    (choice : Choice) × (choice_here new ≡ Some choice) × (branch old.search (trail old) question ≡ (Ok choice, passed (trail new)))
Pushes old question (Err (Failure failure)) new = (branch old.search (trail old) question ≡ (Err failure.kind, trail old)) × (new ≡ old)
Pushes old question (Err Memory) new = IsShort old question new

-- a load is at the position, and its choice is one of the slots that may be read
abbrev pub IsAtLoad : List Bool → Route → Type 0
IsAtLoad readable route = (slot : ℕ) × (choice_here route ≡ Some (Load slot)) × (slice_get readable slot ≡ Some true)

-- the load at the position is passed, and this slot is its choice; or no load is there, and the path stays as it was
abbrev pub PassesLoad : Route → Result ℕ Stop → Route → Type 0
PassesLoad old (Ok slot) new = (choice_here old ≡ Some (Load slot)) × (new ≡ record old { position = old.position + 1 })
PassesLoad old (Err stop) new =
    ((slot : ℕ) → choice_here old ≢ Some (Load slot)) × (stop ≡ Failure (record { kind = NotDeterministic; location = None })) × (new ≡ old)

-- the way through a tree that the path takes: its outcome, and the path after it
abbrev pub drives : {A : Type 0} → Tree A → Route → Result A FailureKind × Trail
drives tree route = drive route.search (marking route.search.bound) tree (trail route)

-- The path has made the marks of a schedule at which threads aren't ordered after the accesses at these places, whatever the
-- threads offer there.
abbrev pub Backtracks : Route → List (Option ℕ) → Route → Type 0
Backtracks old places new =
    ((exploring : Bool) (offers : Offers) → trail new ≡ backtrack old.search (marking old.search.bound) (trail old) (which_thread exploring offers places))
    × IsSame old new
