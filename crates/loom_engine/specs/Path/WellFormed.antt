-- A node between two runs, as its fields say it, and what a node is without its notes.
use Rattle.std.specs.Prelude.{ℕ, ◌≡◌, ◌≢◌, Bool, true, false, ◌&&◌, ◌||◌, not, ◌==◌, nat_lt, List, [], ◌∷◌, ◌++◌, ◌+◌, length, count_by, slice_get, map, Option, Some, None, option_map, unwrap_or, IsTrue}
use Rattle.loom_objects.specs.declared.choice.Choice.TheVariants.{Thread}
use Rattle.loom_objects.specs.Tree.Stores.{slots}
use Rattle.loom_engine.specs.Walk.Path.{Stored, IsAtRest}
use Rattle.loom_engine.specs.declared.rt.path.node.Status.{Status}
use Rattle.loom_engine.specs.declared.rt.path.node.Status.TheVariants.{Disabled, Skip, Yield, Pending, Active, Visited}
use Rattle.loom_engine.specs.declared.rt.path.node.Node.{Node}
use Rattle.loom_engine.specs.declared.rt.path.node.Node.TheVariants as node
use Rattle.loom_engine.specs.declared.rt.path.node.Schedule.{Schedule}
use Rattle.loom_engine.specs.Path.Nodes.{is_active}
use Rattle.loom_engine.specs.Path.Route.{Route}

-- the thread is the choice, or was tried
abbrev pub is_tried : Status → Bool
is_tried Disabled = false
is_tried Skip = false
is_tried Yield = false
is_tried Pending = false
is_tried Active = true
is_tried Visited = true

-- the thread is to be tried beside the choice, or was
abbrev pub is_marked : Status → Bool
is_marked Disabled = false
is_marked Skip = false
is_marked Yield = false
is_marked Pending = true
is_marked Active = false
is_marked Visited = true

-- the test holds of this thread's status
abbrev pub is_at : (Status → Bool) → ℕ → List Status → Bool
is_at test thread statuses = unwrap_or (option_map test (slice_get statuses thread)) false

-- Of five threads exactly one is the choice. The default is the choice, or was tried; where the run doesn't explore it is the
-- choice, and no other thread was tried or is to be.
abbrev pub is_well_formed_schedule : ℕ → Bool → List Status → Bool
is_well_formed_schedule first exploring statuses =
    (length statuses == 5) && (count_by is_active statuses == 1) && is_at is_tried first statuses
    && (exploring || (is_at is_active first statuses && (count_by is_marked statuses == 0)))

-- The choice is one of the slots that may be read, of seven; where the run doesn't explore it is the lowest.
abbrev pub is_well_formed_load : Bool → List Bool → ℕ → Bool
is_well_formed_load exploring readable position = (length readable == 7) && nat_lt position (length (slots readable)) && (exploring || (position == 0))

-- where the run doesn't explore the thread doesn't wake
abbrev pub is_well_formed_spurious : Bool → Bool → Bool
is_well_formed_spurious exploring answer = exploring || not answer

-- a schedule that is well formed has a default
abbrev pub is_well_formed_from : Option ℕ → Bool → List Status → Bool
is_well_formed_from None exploring statuses = false
is_well_formed_from (Some first) exploring statuses = is_well_formed_schedule first exploring statuses

abbrev pub is_well_formed : Node → Bool
is_well_formed (node.Schedule n) = is_well_formed_from n.first n.exploring n.statuses
is_well_formed (node.Load n) = is_well_formed_load n.exploring n.readable n.position
is_well_formed (node.Spurious n) = is_well_formed_spurious n.exploring n.answer

abbrev pub IsWellFormed : Node → Type 0
IsWellFormed n = IsTrue (is_well_formed n)

abbrev pub AreWellFormed : List Node → Type 0
AreWellFormed [] = Unit {0}
AreWellFormed (n ∷ nodes) = IsWellFormed n × AreWellFormed nodes

-- each of these nodes is at rest, and has a default
abbrev pub AreAtRest : List Stored → Type 0
AreAtRest [] = Unit {0}
AreAtRest (n ∷ nodes) = IsAtRest n × (n.made.default ≢ Thread None) × AreAtRest nodes

-- ---- what a node is without its notes, which follow from the nodes before it

abbrev pub unnoted : Option ℕ → Bool → List Status → Schedule
unnoted first exploring statuses = record { preemptions = 0; switch = None; nearest = None; first = first; exploring = exploring; statuses = statuses }

abbrev pub bare : Node → Node
bare (node.Schedule n) = node.Schedule (unnoted n.first n.exploring n.statuses)
bare (node.Load n) = node.Load n
bare (node.Spurious n) = node.Spurious n

-- the nodes are the same, but for their notes
abbrev pub AreAlike : List Node → List Node → Type 0
AreAlike nodes others = map bare nodes ≡ map bare others

-- the node is at the end, with the notes of its place, and is passed
abbrev pub Appends : Route → Node → Route → Type 0
Appends old n new = (m : Node) × (bare m ≡ bare n) × (new ≡ record old { nodes = old.nodes ++ m ∷ []; position = old.position + 1 })
