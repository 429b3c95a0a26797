-- Where a path drives through a part of a run: the choices that it passes lead to where the part comes.
use Rattle.std.specs.Prelude.{ℕ, ◌≤◌, ◌≡◌, ◌⊎◌, List, [], ◌++◌, length, slice_set, Option, Some, Ok, ⊤}
use Rattle.loom_objects.specs.declared.choice.Choice.{Choice}
use Rattle.loom_objects.specs.declared.operation.Reply.{Reply}
use Rattle.loom_objects.specs.declared.operation.Request.{Request}
use Rattle.loom_objects.specs.declared.operation.Turn.{Turn}
use Rattle.loom_objects.specs.declared.operation.Turn.TheVariants as turn
use Rattle.loom_objects.specs.Operation.Labelled.{Op}
use Rattle.loom_objects.specs.Operation.Plain.{plain, started}
use Rattle.loom_objects.specs.Tree.Question.{Question}
use Rattle.loom_objects.specs.Tree.Tree.{Tree, Gives, Asks, ◌>>=◌}
use Rattle.loom_engine.specs.declared.rt.execution.Begun.{Begun}
use Rattle.loom_engine.specs.declared.rt.execution.Begun.TheVariants as begun
use Rattle.loom_engine.specs.Begun.{begins_at}
use Rattle.loom_engine.specs.Runs.Body.{Meaning, at_turn, with_child}
use Rattle.loom_engine.specs.Runs.Course.{Course}
use Rattle.loom_engine.specs.Runs.Machine.{schedule}
use Rattle.loom_engine.specs.Walk.Path.{Stored, node_at}
use Rattle.loom_engine.specs.Trees.Meeting.{Marking, whole_search}
use Rattle.loom_engine.specs.Trees.Drive.{Trail, drive}
use Rattle.loom_engine.specs.Covering.Cut.{passed}
use Rattle.loom_engine.specs.Covering.Moments.{Moment, Next, RunEnds, Stands, at_branch, handing, settled, stand_after, to_schedule}

-- The path has passed some choices more, and by these a run that stands before the part stands where the part leads.
pub record LeadsOn {A D S : Type 0} (next : Meaning D S) (last : Option (Moment D S)) (since : List Choice) (part : Tree A) (onward : A → Tree (Next D S)) (path : Trail) (came : A) (after : Trail) : Type 0 where
  pub between : List Choice
  pub passes : passed after ≡ passed path ++ between
  pub within : after.position ≤ length after.nodes
  pub stands : stand_after next (settled next last since (part >>= onward)) between ≡ settled next last (since ++ between) (onward came)

-- So it is of an operation up to its branch point.
abbrev pub BegunLaw : Type 0 → Type 0 → Type 0
BegunLaw D S = (room : ℕ) (adds : Marking) (next : Meaning D S) (last : Option (Moment D S)) (since : List Choice) (op : Request D ⊤) (c : Course D) (onward : Begun D × Course D → Tree (Next D S))
    (path after : Trail) (came : Begun D × Course D) → path.position ≤ length path.nodes → drive (whole_search room) adds (begins_at op c) path ≡ (Ok came, after)
    → LeadsOn next last since (begins_at op c) onward path came after

module _ {D S : Type 0} where
  -- up to a run's end, or the next schedule, once a thread has its turn
  abbrev pub on_turn : (Course D → ℕ → Reply D → Tree (Next D S)) → Turn D × Course D → Tree (Next D S)
  on_turn rest (turn, c) = at_turn (rest c) (λ value. Gives (RunEnds value)) turn

  -- so once an operation is begun
  abbrev pub on_begun : (Course D → ℕ → Reply D → Tree (Next D S)) → ℕ → List S → Begun D × Course D → Tree (Next D S)
  on_begun rest left bodies (begun.Turn turn, c) = on_turn rest (turn, c)
  on_begun rest left bodies (begun.AtBranch, c) = Gives (at_branch left bodies c)

-- The part of a run from an operation that is handed over to the next schedule is the operation up to its branch point, and what
-- comes after that.
abbrev pub HandingLaw : Type 0 → Type 0 → Type 0
HandingLaw D S = (rest : List S → Course D → ℕ → Reply D → Tree (Next D S)) (left : ℕ) (bodies : List S) (c : Course D) (thread : ℕ) (after : S) (op : Op D S)
    → handing rest left bodies c thread (after, op)
    ≡ begins_at (plain op) c >>= on_begun (rest (with_child (slice_set bodies thread after) (started op))) left (with_child (slice_set bodies thread after) (started op))

abbrev pub IsEnded : {D : Type 0} → Turn D → Type 0
IsEnded (turn.Reply thread answer) = ⊥
IsEnded (turn.Start thread) = ⊥
IsEnded (turn.Ended value) = Unit {0}

-- The path has passed some choices more, and by these a run that stood at schedule m stands where the next turn leads.
pub record TurnsOn {D S : Type 0} (next : Meaning D S) (m : Moment D S) (path : Trail) (came : Turn D × Course D) (after : Trail) : Type 0 where
  pub between : List Choice
  pub last : Option (Moment D S)
  pub since : List Choice
  pub passes : passed after ≡ passed path ++ between
  pub stands : stand_after next (settled next (Some m) [] (Gives (Stands m))) between ≡ settled next last since (on_turn (to_schedule next m.left m.bodies) came)

-- So it is of a schedule up to the next turn, unless the run has ended.
abbrev pub ScheduleLaw : Type 0 → Type 0 → Type 0
ScheduleLaw D S = (room : ℕ) (adds : Marking) (next : Meaning D S) (m : Moment D S) (path after : Trail) (came : Turn D × Course D) → path.position ≤ length path.nodes
    → drive (whole_search room) adds (schedule m.more m.course) path ≡ (Ok came, after) → IsEnded came.0 ⊎ TurnsOn next m path came after

-- the nodes of a path are in the later one still
abbrev pub StayThere : Trail → Trail → Type 0
StayThere path after = (b : List Choice) (n : Stored) → node_at path.nodes b ≡ Some n → node_at after.nodes b ≡ Some n

-- A path that drives through a tree keeps its nodes; and where the tree begins with a question, there is a node then.
pub record KeepsNodes (A : Type 0) (room : ℕ) (adds : Marking) : Type 0 where
  pub stay : (t : Tree A) (path after : Trail) (came : A) → path.position ≤ length path.nodes → drive (whole_search room) adds t path ≡ (Ok came, after) → StayThere path after
  pub first : (question : Question) (branches : Choice → Tree A) (path after : Trail) (came : A) → path.position ≤ length path.nodes → drive (whole_search room) adds (Asks question branches) path ≡ (Ok came, after)
      → (n : Stored) × (node_at after.nodes (passed path) ≡ Some n)

abbrev pub NodesLaw : Type 0 → Type 0
NodesLaw A = (room : ℕ) (adds : Marking) → KeepsNodes A room adds
