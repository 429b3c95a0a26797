-- A node of the path as a walk sees it.
use Rattle.std.specs.Prelude.{ℕ, zero, suc, ◌≡◌, ◌<◌, Bool, true, false, List, [], ◌∷◌, map, length, Option, Some, None, slice_set, slice_index}
use Rattle.std.specs.List.{position_from}
use Rattle.loom_objects.specs.declared.choice.Choice.{Choice}
use Rattle.loom_objects.specs.declared.choice.Choice.TheVariants as choice
use Rattle.loom_objects.specs.declared.choice.Choice.TheVariants.{Thread}
use Rattle.loom_objects.specs.declared.rt.schedule.Ability.{Ability}
use Rattle.loom_objects.specs.declared.rt.schedule.Ability.TheVariants.{Able, Yielding, Unable}
use Rattle.loom_objects.specs.Tree.Question.{WhichThread, WhetherSpurious, Question, made_of}
use Rattle.loom_objects.specs.Tree.Stores.{slots, asked_store}
use Rattle.loom_engine.specs.Walk.Path.{Status as State, Closed, Skip as Skipped, Pending as ToTry, Active as Chosen, Visited as Tried, Stored, IsAtRest, advance, mark_status}
use Rattle.loom_engine.specs.Trees.Drive.{value_status}
use Rattle.loom_engine.specs.Trees.Marks.{adds_there}
use Rattle.loom_engine.specs.declared.rt.path.node.Status.{Status}
use Rattle.loom_engine.specs.declared.rt.path.node.Status.TheVariants.{Disabled, Skip, Yield, Pending, Active, Visited}
use Rattle.loom_engine.specs.declared.rt.path.node.Node.{Node}
use Rattle.loom_engine.specs.declared.rt.path.node.Node.TheVariants as node
use Rattle.loom_engine.specs.declared.rt.path.node.Schedule.{Schedule}
use Rattle.loom_engine.specs.declared.rt.path.node.Load.{Load}
use Rattle.loom_engine.specs.declared.rt.path.node.Spurious.{Spurious}

-- what a thread with this status offered when the node was made
abbrev pub ability_of : Status → Ability
ability_of Disabled = Unable
ability_of Skip = Able
ability_of Yield = Yielding
ability_of Pending = Able
ability_of Active = Able
ability_of Visited = Able

-- what a thread's status says of the option that it is
abbrev pub state_of : Status → State
state_of Disabled = Closed
state_of Skip = Skipped
state_of Yield = Closed
state_of Pending = ToTry
state_of Active = Chosen
state_of Visited = Tried

-- the state of the option that is the thread of this number
abbrev pub state_at : List Status → ℕ → State
state_at [] k = Closed
state_at (s ∷ statuses) zero = state_of s
state_at (s ∷ statuses) (suc k) = state_at statuses k

-- the state of an option of a schedule; without a default none is the one option, and it is the choice
abbrev pub thread_state : Option ℕ → List Status → Choice → State
thread_state first statuses (Thread (Some k)) = state_at statuses k
thread_state None statuses (Thread None) = Chosen
thread_state (Some k) statuses (Thread None) = Closed
thread_state first statuses (choice.Load slot) = Closed
thread_state first statuses (choice.Spurious answer) = Closed

-- the thread is the choice
abbrev pub is_active : Status → Bool
is_active Active = true
is_active _ = false

-- the thread is to be tried
abbrev pub is_pending : Status → Bool
is_pending Pending = true
is_pending _ = false

-- the first thread that is active
abbrev pub active_thread : List Status → Option ℕ
active_thread statuses = position_from is_active 0 statuses

-- the question that made the schedule
abbrev pub asked : Option ℕ → Bool → List Status → Question
asked first exploring statuses = WhichThread exploring (record { default = first; abilities = map ability_of statuses; unordered = [] })

-- a schedule with this default and these statuses
abbrev pub seen_threads : Option ℕ → Bool → List Status → Stored
seen_threads first exploring statuses = record {
  made = made_of (asked first exploring statuses);
  present = Thread (active_thread statuses);
  status = thread_state first statuses;
}

-- the schedule as a walk sees it
abbrev pub seen_schedule : Schedule → Stored
seen_schedule n = seen_threads n.first n.exploring n.statuses

-- a node whose options are tried in turn: those before the choice were tried, those after it are to be tried
abbrev pub in_turn : Question → Choice → Stored
in_turn question present = record { made = made_of question; present = present; status = value_status (made_of question).options present }

-- the load as a walk sees it
abbrev pub seen_load : Load → Stored
seen_load n = in_turn (asked_store n.exploring (slots n.readable)) (choice.Load (slice_index (slots n.readable) n.position))

-- the spurious wake-up as a walk sees it
abbrev pub seen_spurious : Spurious → Stored
seen_spurious n = in_turn (WhetherSpurious n.exploring) (choice.Spurious n.answer)

-- the node as a walk sees it
abbrev pub seen : Node → Stored
seen (node.Schedule n) = seen_schedule n
seen (node.Load n) = seen_load n
seen (node.Spurious n) = seen_spurious n

-- a load whose position is the place of one of its slots
abbrev pub IsWellLoad : Load → Type 0
IsWellLoad n = n.position < length (slots n.readable)

-- A schedule that a run has made is at rest, explored or not: where it isn't explored a given choice may have passed the default
-- over.
abbrev pub IsWellSchedule : Schedule → Type 0
IsWellSchedule n = IsAtRest (seen_threads n.first true n.statuses)

-- a node that a run has made, of five threads or seven slots, with one choice, which is one of its options
abbrev pub IsWell : Node → Type 0
IsWell (node.Schedule n) = IsWellSchedule n × (length n.statuses ≡ 5)
IsWell (node.Load n) = IsWellLoad n × (length n.readable ≡ 7)
IsWell (node.Spurious n) = Unit {0}

-- each of the nodes is so
abbrev pub AreWell : List Node → Type 0
AreWell [] = Unit {0}
AreWell (n ∷ nodes) = IsWell n × AreWell nodes

-- the thread can go on, and isn't the choice nor was tried
abbrev pub is_left : Status → Bool
is_left Skip = true
is_left Pending = true
is_left Disabled = false
is_left Yield = false
is_left Active = false
is_left Visited = false

-- the status, as the node is made, of a thread that isn't the choice: each option is to be tried, or none is yet
abbrev pub made_status : Bool → Ability → Status
made_status true Able = Pending
made_status false Able = Skip
made_status every Yielding = Yield
made_status every Unable = Disabled

-- the status of a thread that is to be tried too
abbrev pub marked_status : Status → Status
marked_status Skip = Pending
marked_status Disabled = Disabled
marked_status Yield = Yield
marked_status Pending = Pending
marked_status Active = Active
marked_status Visited = Visited

-- the node with the marks that adding this thread makes
abbrev pub mark_added : ℕ → Stored → Stored
mark_added thread n = record n { status = λ o. mark_status (adds_there (Some (n.made, n.present)) thread o) (n.status o) }

-- the thread, if there is one, gets the status
abbrev pub with_status : Option ℕ → Status → List Status → List Status
with_status None status statuses = statuses
with_status (Some k) status statuses = slice_set statuses k status

-- the node went on to its next choice, or it can't, and stays
abbrev pub Advances : Stored → Bool → Stored → Type 0
Advances old true new = advance old ≡ Some new
Advances old false new = (advance old ≡ None) × (new ≡ old)

abbrev pub stored : List Node → List Stored
stored nodes = map seen nodes
