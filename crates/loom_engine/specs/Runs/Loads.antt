-- The replies of loads, over every history.
use Rattle.std.specs.Prelude.{ℕ, ◌≡◌, ◌≢◌, List, [], ◌∷◌, slice_get}
use Rattle.std.specs.declared.sync.atomic.Ordering.{Ordering}
use Rattle.loom_views.specs.Laws.Views.{ReadsOneOfTheLast}
use Rattle.loom_objects.specs.declared.choice.Choice.{Choice}
use Rattle.loom_objects.specs.declared.operation.AtomicOp.TheVariants.{Load}
use Rattle.loom_objects.specs.declared.operation.Reply.{Reply}
use Rattle.loom_objects.specs.declared.operation.Reply.TheVariants.{Value}
use Rattle.loom_objects.specs.declared.operation.Request.TheVariants.{Atomic}
use Rattle.loom_objects.specs.declared.operation.Turn.{Turn}
use Rattle.loom_objects.specs.declared.operation.Turn.TheVariants as turn
use Rattle.loom_objects.specs.Tree.Question.{Among, made_of}
use Rattle.loom_objects.specs.Tree.Tree.{Tree, Gives, Fails, Closes, Asks}
use Rattle.loom_engine.specs.Runs.Course.{Course}
use Rattle.loom_engine.specs.Runs.Histories.{Event, Happens, IsReached}
use Rattle.loom_engine.specs.Runs.Machine.{submit}

-- each of these choices is an option where it comes
abbrev pub AreOptions : {A : Type 0} → Tree A → List Choice → Type 0
AreOptions (Gives a) choices = Unit {0}
AreOptions (Fails kind) choices = Unit {0}
AreOptions (Closes rest) choices = AreOptions rest choices
AreOptions (Asks question branches) [] = Unit {0}
AreOptions (Asks question branches) (choice ∷ choices) = Among choice (made_of question).options × AreOptions (branches choice) choices

module _ {D : Type 0} where
  -- by this event, whose choices are options, the machine comes from the one state to the other
  pub record Follows (c : Course D) (event : Event D) (v : Course D) : Type 0 where
    pub happens : Happens c event v
    pub options : AreOptions (submit event.op c) event.choices

  -- another thread has its turn
  abbrev pub IsOthers : ℕ → Turn D → Type 0
  IsOthers t (turn.Reply u reply) = u ≢ t
  IsOthers t (turn.Start u) = u ≢ t
  IsOthers t (turn.Ended value) = ⊥

  -- By these events thread t gets the reply, by the last of them, in the later state. Before that other threads have their turns.
  pub data IsTold (t : ℕ) (reply : Reply D) : Course D → List (Event D) → Course D → Type 0 where
    at_last : (c : Course D) (event : Event D) (v : Course D) → Follows c event v → event.turn ≡ turn.Reply t reply → IsTold t reply c (event ∷ []) v
    afterwards : (c : Course D) (event : Event D) (u : Course D) (events : List (Event D)) (v : Course D) → Follows c event u → IsOthers t event.turn → IsTold t reply u events v
        → IsTold t reply c (event ∷ events) v

-- Over every history: where a thread hands over a load of atomic n, and then gets a value, that is the value of one of the last
-- seven stores of the atomic that were made by then, as it is by then.
abbrev pub LoadLaw : Type 0 → Type 0
LoadLaw D = (max_threads max_steps n value : ℕ) (order : Ordering) (c v : Course D) (event : Event D) (events : List (Event D)) → IsReached max_threads max_steps c
    → event.op ≡ Atomic (Load n order) → IsTold c.world.active (Value value) c (event ∷ events) v → ReadsOneOfTheLast (slice_get v.world.points.places n) value
