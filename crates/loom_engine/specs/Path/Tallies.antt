-- What the schedules of a path note of those before them: how many preemptions the run counts up to there, where it last went
-- over to another thread, and which one explores.
use Rattle.std.specs.Prelude.{ℕ, ◌≡◌, Bool, true, false, List, [], ◌∷◌, Option, Some, None, map, take, slice_get, IsSomeAnd}
use Rattle.std.specs.Option.{option_map}
use Rattle.loom_objects.specs.declared.choice.Choice.{Choice}
use Rattle.loom_objects.specs.declared.choice.Choice.TheVariants.{Thread}
use Rattle.loom_objects.specs.Tree.Question.{Made}
use Rattle.loom_engine.specs.declared.rt.path.node.Node.{Node}
use Rattle.loom_engine.specs.declared.rt.path.node.Node.TheVariants as node
use Rattle.loom_engine.specs.declared.rt.path.node.Schedule.{Schedule}
use Rattle.loom_engine.specs.declared.rt.path.node.Tally.{Tally}
use Rattle.loom_engine.specs.Walk.Machine.{is_thread}
use Rattle.loom_engine.specs.Walk.Choices.{same, pick}
use Rattle.loom_engine.specs.Trees.Drive.{pass_of}
use Rattle.loom_engine.specs.Trees.Marks.{Place, from_exploring, schedules_down, switching}
use Rattle.loom_engine.specs.Trees.Meeting.{count, start, tally}
use Rattle.loom_engine.specs.Path.Nodes.{seen}

-- what the first so many nodes pass
abbrev pub passes_to : ℕ → List Node → List (Made × Choice)
passes_to k nodes = map pass_of (take k (map seen nodes))

-- the place of which there is one at most
abbrev pub first_of : List ℕ → Option ℕ
first_of [] = None
first_of (k ∷ ks) = Some k

-- where the run that has passed these k nodes last went over to another thread, or its first schedule, if that explores
abbrev pub last_switch : ℕ → List (Made × Choice) → Option ℕ
last_switch k passes = first_of (switching (schedules_down 0 k passes []))

-- the place of the first of these schedules
abbrev pub place_of : List Place → Option ℕ
place_of [] = None
place_of (c ∷ places) = Some c.0

-- the nearest schedule that explores, among those of these k nodes
abbrev pub last_exploring : ℕ → List (Made × Choice) → Option ℕ
last_exploring k passes = place_of (from_exploring (schedules_down 0 k passes []))

-- another choice than the last one, or the first
abbrev pub goes_over : Option Choice → Choice → Bool
goes_over None chosen = true
goes_over (Some last) chosen = pick (same chosen last) false true

-- the schedule notes what was passed before it, at k nodes
abbrev pub Notes : ℕ → List (Made × Choice) → Schedule → Type 0
Notes k passes n = (n.preemptions ≡ count passes) × (n.switch ≡ last_switch k passes) × (n.nearest ≡ last_exploring k passes)

-- a node before which the run has passed this
abbrev pub IsNoted : ℕ → List (Made × Choice) → Node → Type 0
IsNoted k passes (node.Schedule n) = Notes k passes n
IsNoted k passes (node.Load n) = Unit {0}
IsNoted k passes (node.Spurious n) = Unit {0}

-- the schedule at place k notes what was passed before it
abbrev pub IsNotedAt : List Node → ℕ → Node → Type 0
IsNotedAt nodes k n = IsNoted k (passes_to k nodes) n

-- each schedule notes what was passed before it
abbrev pub AreNoted : List Node → Type 0
AreNoted nodes = (k : ℕ) (n : Node) → slice_get nodes k ≡ Some n → IsNotedAt nodes k n

-- a node that is no schedule is there
abbrev pub IsValueAt : List Node → ℕ → Type 0
IsValueAt nodes k = IsSomeAnd (slice_get (map seen nodes) k) (λ n. is_thread n.made.default ≡ false)

-- the tally of a run that has passed these k nodes
abbrev pub Tallies : ℕ → List (Made × Choice) → Tally → Type 0
Tallies k passes t = (t.preemptions ≡ count passes) × (option_map Thread t.last ≡ (tally start passes).last) × (t.switch ≡ last_switch k passes) × (t.nearest ≡ last_exploring k passes)

-- the tally of the first so many nodes
abbrev pub IsTally : List Node → ℕ → Tally → Type 0
IsTally nodes k t = Tallies k (passes_to k nodes) t
