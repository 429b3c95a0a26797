-- Which stores a run reads, over every history whose choices are options: the orders of an atomic's kept stores differ, so no run fails
-- because two are equal, a thread always has a store to read, and no two read-modify-writes that succeed read the same one.
use Rattle.std.specs.Prelude.{ℕ, ◌≡◌, ◌≢◌, ◌++◌, Bool, List, [], ◌∷◌, Some, Ok, slice_get, ⊤}
use Rattle.loom_views.specs.Atomic.History.{History}
use Rattle.loom_views.specs.ThreadViews.{ThreadPoints}
use Rattle.loom_views.specs.declared.rt.atomic.reader.Reader.{Reader}
use Rattle.loom_views.specs.declared.rt.failure.FailureKind.TheVariants.{OrdersEqual}
use Rattle.loom_views.specs.Laws.Orders.{LeadsReadably, OrdersDiffer, number_kept}
use Rattle.loom_views.specs.Views.{Keeps, Points, opening as first_points, points_after_raise, readable_slots_of}
use Rattle.loom_objects.specs.declared.choice.Choice.{Choice}
use Rattle.loom_objects.specs.declared.choice.Choice.TheVariants as choice
use Rattle.loom_objects.specs.declared.operation.Request.{Request}
use Rattle.loom_objects.specs.declared.rt.atomic.Atomic.{Atomic}
use Rattle.loom_objects.specs.declared.rt.object.Object.TheVariants as object
use Rattle.loom_engine.specs.Runs.Body.{Meaning, runs}
use Rattle.loom_engine.specs.Runs.Course.{Course, opening}
use Rattle.loom_engine.specs.Runs.Histories.{Event}
use Rattle.loom_engine.specs.Runs.Loads.{Follows}
use Rattle.loom_engine.specs.Runs.Machine.{submit}
use Rattle.loom_engine.specs.Runs.Stores.{IsThreads, stored_in}
use Rattle.loom_engine.specs.Trees.Sound.{NeverFails}

-- a state in which a history whose choices are options leaves the machine: the opening one, or one to which such an event leads
pub data IsFollowed {D : Type 0} (max_threads max_steps : ℕ) : Course D → Type 0 where
  at_first : (explores : Bool) → IsFollowed max_threads max_steps (opening explores max_threads max_steps)
  later : (c : Course D) (event : Event D) (v : Course D) → IsFollowed max_threads max_steps c → Follows c event v → IsFollowed max_threads max_steps v

-- Over every such history: moves that read what may be read lead to the points of a state from those of the opening, and by each event
-- from those before it to those after it. So what holds of such moves holds of runs.
pub record LedReadably {D : Type 0} (c v : Course D) : Type 0 where
  pub before : LeadsReadably first_points c.world.points
  pub on : LeadsReadably c.world.points v.world.points

abbrev pub ReadableMovesLaw : Type 0 → Type 0
ReadableMovesLaw D = (max_threads max_steps : ℕ) (c v : Course D) (event : Event D) → IsFollowed max_threads max_steps c → Follows c event v → LedReadably c v

-- Over every such history: of no two kept stores of an atomic is each one's order inside the other's.
abbrev pub OrdersLaw : Type 0 → Type 0
OrdersLaw D = (max_threads max_steps : ℕ) (c : Course D) → IsFollowed max_threads max_steps c → OrdersDiffer c.world.points

-- Over every such history: whatever operation is handed over then, it doesn't fail because two orders are equal.
abbrev pub UnequalLaw : Type 0 → Type 0
UnequalLaw D = (max_threads max_steps : ℕ) (c : Course D) (todo : Request D ⊤) → IsFollowed max_threads max_steps c → NeverFails OrdersEqual (submit todo c)

-- So no run of a body does, whatever the body means.
abbrev pub UnequalRunsLaw : Type 0 → Type 0 → Type 0
UnequalRunsLaw D S = (next : Meaning D S) (explores : Bool) (max_threads max_steps : ℕ) (body : S) → NeverFails OrdersEqual (runs next explores max_threads max_steps body)

-- Over every such history: a thread that has raised its version has a slot of each atomic to choose.
abbrev pub SlotLaw : Type 0 → Type 0
SlotLaw D = (max_threads max_steps t n : ℕ) (reader : Reader) (c : Course D) (raised : Points) (own : ThreadPoints) (history : History) → IsFollowed max_threads max_steps c
    → points_after_raise c.world.points t ≡ Ok raised → slice_get raised.threads t ≡ Some own → slice_get raised.places n ≡ Some (Keeps history)
    → (slot : ℕ) × (slots : List ℕ) × (readable_slots_of raised t n reader ≡ Ok (slot ∷ slots))

-- ---- read-modify-writes

-- by events whose choices are options, each of which gives a thread its turn, the machine comes from the one state to the other
pub data GoesByOptions {D : Type 0} (c : Course D) : Course D → Type 0 where
  at_once : GoesByOptions c c
  on : (u : Course D) (event : Event D) (v : Course D) → GoesByOptions c u → Follows u event v → IsThreads event.turn → GoesByOptions c v

-- A thread is told of its read-modify-write of atomic n, which has read the store of this number, and has succeeded: by the event it
-- stores something there, and the last choice of the event is the slot that keeps that store.
pub record UpdatesStore {D : Type 0} (n number : ℕ) (c v : Course D) (event : Event D) : Type 0 where
  pub atomic : Atomic
  pub stands : slice_get v.world.objects n ≡ Some (object.Atomic atomic)
  pub stores : stored_in atomic.numbers n c event event.turn ≢ []
  pub before : List Choice
  pub slot : ℕ
  pub chosen : event.choices ≡ before ++ choice.Load slot ∷ []
  pub is : number_kept (slice_get c.world.points.places n) slot ≡ Some number

-- Over every such history: no two read-modify-writes of an atomic that succeed have read the same store.
abbrev pub OnceLaw : Type 0 → Type 0
OnceLaw D = (explores : Bool) (max_threads max_steps n number : ℕ) (c u d v : Course D) (first second : Event D) → GoesByOptions (opening explores max_threads max_steps) c → Follows c first u → UpdatesStore n number c u first
    → GoesByOptions u d → Follows d second v → UpdatesStore n number d v second → ⊥
