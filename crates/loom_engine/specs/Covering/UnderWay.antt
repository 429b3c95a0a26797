-- A run of a body under way, that notes the states it meets and is given up where one was noted.
use Rattle.std.specs.Prelude.{ℕ, ◌≡◌, ◌<◌, ◌≤◌, ◌⊎◌, Bool, false, List, [], ◌∷◌, ◌++◌, length, map, slice_get, take, Option, Some, Result, Ok, Err}
use Rattle.std.specs.List.{Contains}
use Rattle.loom_views.specs.declared.rt.failure.FailureKind.{FailureKind}
use Rattle.loom_views.specs.Laws.Moves.{Leads}
use Rattle.loom_views.specs.Views.{opening as first_points}
use Rattle.loom_objects.specs.declared.choice.Choice.{Choice}
use Rattle.loom_objects.specs.declared.operation.Reply.{Reply}
use Rattle.loom_objects.specs.declared.operation.Turn.{Turn}
use Rattle.loom_objects.specs.Operation.Labelled.{Op}
use Rattle.loom_objects.specs.Operation.Plain.{plain, started}
use Rattle.loom_objects.specs.Tree.Tree.{Tree, Gives, ◌>>=◌}
use Rattle.loom_engine.specs.declared.rt.execution.Begun.{Begun}
use Rattle.loom_engine.specs.Begun.{begins_at, goes_further}
use Rattle.loom_engine.specs.Runs.Body.{Meaning, at_turn, play, runs, with_child}
use Rattle.loom_engine.specs.Runs.Course.{Course}
use Rattle.loom_engine.specs.Runs.Machine.{further_branches, schedule}
use Rattle.loom_engine.specs.Trees.Meeting.{Marking, whole_search}
use Rattle.loom_engine.specs.Trees.Drive.{Trail, at_start, drive}
use Rattle.loom_engine.specs.Trees.Retracing.{LeadsBy}
use Rattle.loom_engine.specs.Walk.Path.{Stored, choices, node_at}
use Rattle.loom_engine.specs.Covering.Between.{EndsAt}
use Rattle.loom_engine.specs.Covering.Cut.{cut, passed}
use Rattle.loom_engine.specs.Covering.Kept.{AreKeptAfter, GrowsFrom, Key, Noted}
use Rattle.loom_engine.specs.Covering.Moments.{Moment, Stand, at_branch, first_stand, settled, stand_after, to_schedule}
use Rattle.loom_engine.specs.Covering.Parts.{StayThere, on_begun}
use Rattle.loom_engine.specs.Covering.Sight.{seen_by}
use Rattle.loom_engine.specs.Covering.States.{state_after}
use Rattle.loom_engine.specs.Covering.Table.{IsAlong}

-- nowhere before these choices
abbrev pub IsOpen : (List Choice → Bool) → List Choice → Type 0
IsOpen stop c = (b : List Choice) (o : Choice) (rest : List Choice) → c ≡ b ++ o ∷ rest → stop b ≡ false

-- the path has a node after these choices
pub record HasNode (p : List Stored) (c : List Choice) : Type 0 where
  pub node : Stored
  pub at : node_at p c ≡ Some node

-- by these nodes the tree leads to what is ahead, where neither is cut on the way
abbrev pub LeadsUncut : {R : Type 0} → ℕ → Marking → Tree R → List Stored → Tree R → Type 0
LeadsUncut room adds tree front ahead = (stop : List Choice → Bool) → IsOpen stop (choices front) → LeadsBy (whole_search room) adds (cut stop [] tree) front (cut stop (choices front) ahead)

module _ {R D S : Type 0} (room : ℕ) (adds : Marking) (next : Meaning D S) (tree : Tree R) (first : Stand D S) (p : List Stored) where
  -- A run along the path p has come this far, and this tree is ahead of it: the tree's outcome, with the path here, is the whole
  -- run's, if it wasn't cut before; and by the nodes that it has passed the whole tree leads there. It stands there.
  pub record Way (path : Trail) (ahead : Tree R) (stand : Stand D S) : Type 0 where
    pub within : path.position ≤ length path.nodes
    pub cuts : (stop : List Choice → Bool) → IsOpen stop (passed path)
        → drive (whole_search room) adds (cut stop [] tree) (at_start p) ≡ drive (whole_search room) adds (cut stop (passed path) ahead) path
    pub leads : LeadsUncut room adds tree (take path.position path.nodes) ahead
    pub stays : StayThere (at_start p) path
    pub stands : stand_after next first (passed path) ≡ stand

-- moves lead to its points
abbrev pub IsLed : {D : Type 0} → Course D → Type 0
IsLed c = Leads first_points c.world.points

module _ {D S : Type 0} (next : Meaning D S) where
  -- what comes after a turn
  abbrev pub onward : ℕ → List S → Turn D × Course D → Tree D
  onward left bodies turned = at_turn (play next left bodies turned.1) (λ value. Gives value) turned.0

  -- what follows an operation that was begun
  abbrev pub after_begun : ℕ → List S → Begun D × Course D → Tree D
  after_begun left bodies came = goes_further came >>= onward left bodies

-- A run of the body stood so after it had passed these nodes, at its operation's branch point.
pub record StoodAt {D S : Type 0} (room : ℕ) (adds : Marking) (next : Meaning D S) (explores : Bool) (max_threads max_steps : ℕ) (body : S) (front : List Stored) (left : ℕ) (bodies : List S) (c : Course D) : Type 0 where
  pub last : Option (Moment D S)
  pub since : List Choice
  pub stands : stand_after next (first_stand next explores max_threads max_steps body) (choices front) ≡ settled next last since (Gives (at_branch left bodies c))
  pub led : IsLed c
  pub leads : LeadsUncut room adds (runs next explores max_threads max_steps body) front (schedule further_branches c >>= onward next left bodies)

module _ {D S : Type 0} (room : ℕ) (adds : Marking) (next : Meaning D S) (explores : Bool) (max_threads max_steps : ℕ) (body : S) (p : List Stored) (old : Noted D S) where
  -- the runs, and the state after choices
  abbrev pub tree : Tree D
  tree = runs next explores max_threads max_steps body

  abbrev pub key : List Choice → Key D S
  key = state_after (seen_by old.never) next explores max_threads max_steps body

  abbrev pub IsOnWay : Trail → Tree D → Stand D S → Type 0
  IsOnWay path ahead stand = Way room adds next tree (first_stand next explores max_threads max_steps body) p path ahead stand

  -- the states that were noted
  abbrev pub keys : Noted D S → List (Key D S)
  keys noted = map key noted.led_by

  -- What this run noted is at nodes past those with which its path began, each at a later one than what was noted before it.
  pub record AreLater (noted : Noted D S) (path : Trail) : Type 0 where
    pub there : (k : ℕ) (c : List Choice) → length old.led_by ≤ k → slice_get noted.led_by k ≡ Some c → HasNode path.nodes c × (length p ≤ length c)
    pub ordered : (k m : ℕ) (c d : List Choice) → length old.led_by ≤ k → k < m → slice_get noted.led_by k ≡ Some c → slice_get noted.led_by m ≡ Some d → length c ≤ length d

  -- What was noted keeps its number, and is the state after its choices. It was noted before, or at a node of this run's path.
  pub record Tables (noted : Noted D S) (path : Trail) : Type 0 where
    pub explained : AreKeptAfter key noted
    pub grows : GrowsFrom old noted
    pub never : noted.never ≡ old.never
    pub later : AreLater noted path
    pub known : (c : List Choice) → Contains noted.led_by c → Contains old.led_by c ⊎ HasNode path.nodes c

  -- the thread is to get the reply
  pub record AtTurn (path : Trail) (left : ℕ) (bodies : List S) (c : Course D) (thread : ℕ) (answer : Reply D) : Type 0 where
    pub last : Option (Moment D S)
    pub since : List Choice
    pub way : IsOnWay path (play next left bodies c thread answer) (settled next last since (to_schedule next left bodies c thread answer))
    pub led : IsLed c

  -- the active thread hands over an operation, and the bodies are these
  pub record IsHanding (path : Trail) (left : ℕ) (bodies : List S) (c : Course D) (op : Op D S) : Type 0 where
    pub last : Option (Moment D S)
    pub since : List Choice
    pub way : IsOnWay path (begins_at (plain op) c >>= after_begun next left (with_child bodies (started op)))
        (settled next last since (begins_at (plain op) c >>= on_begun (to_schedule next left (with_child bodies (started op))) left (with_child bodies (started op))))
    pub led : IsLed c

  -- the active thread's operation has reached its branch point
  pub record AtBranch (path : Trail) (left : ℕ) (bodies : List S) (c : Course D) : Type 0 where
    pub last : Option (Moment D S)
    pub since : List Choice
    pub way : IsOnWay path (schedule further_branches c >>= onward next left bodies) (settled next last since (Gives (at_branch left bodies c)))
    pub led : IsLed c

  -- the run has left the path and what was noted so: it ended with this, or was cut off, as one with a table
  abbrev pub Leaves : Result (Option D) FailureKind → Trail → Noted D S → Type 0
  Leaves (Ok came) path noted = Tables noted path × IsAlong room adds tree key (keys old) p (Ok came) path (keys noted)
  Leaves (Err kind) path noted = (new : List (Key D S)) × IsAlong room adds tree key (keys old) p (Err kind) path new

  -- the path ends in the state of this number
  abbrev pub EndsIn : ℕ → Trail → Noted D S → Type 0
  EndsIn number path noted = EndsAt key noted.led_by path.nodes number
