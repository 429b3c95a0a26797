-- The execution of a run: the run so far, whether it is over, and what an operation makes of both.
use Rattle.std.specs.Prelude.{Bool, true, false, ⊤, Option, Some, None, Result, Ok, Err, ℕ, ◌≡◌, ◌⊎◌}
use Rattle.loom_views.specs.declared.rt.failure.FailureKind.{FailureKind}
use Rattle.loom_views.specs.declared.rt.failure.FailureKind.TheVariants.{Deadlock, Misuse, NotDeterministic}
use Rattle.loom_objects.specs.declared.failure.Stop.{Stop}
use Rattle.loom_objects.specs.declared.failure.Stop.TheVariants.{Failure, Memory}
use Rattle.loom_objects.specs.declared.operation.Turn.{Turn}
use Rattle.loom_objects.specs.declared.operation.Turn.TheVariants.{Reply, Start, Ended}
use Rattle.loom_objects.specs.declared.operation.Request.{Request}
use Rattle.loom_objects.specs.declared.operation.Reply.TheVariants.{ReadLocked}
use Rattle.loom_objects.specs.Rules.Tables.{needs_memory}
use Rattle.loom_objects.specs.Exploring.{is_on}
use Rattle.loom_objects.specs.Tree.Tree.{Tree, Gives, Fails}
use Rattle.loom_objects.specs.Scene.Shown.{Shows}
use Rattle.loom_objects.specs.World.{World}
use Rattle.loom_objects.specs.declared.rt.run.Entry.{Entry}
use Rattle.loom_objects.specs.Dependence.Order.{Order}
use Rattle.loom_objects.specs.declared.rt.dependence.Dependence.{Dependence}
use Rattle.loom_objects.specs.Dependence.Shown.{Keeps}
use Rattle.loom_engine.specs.declared.rt.execution.Progress.{Progress}
use Rattle.loom_objects.specs.declared.rt.run.Passed.{Passed}
use Rattle.loom_objects.specs.Rules.Steps.{begins, resumes}
use Rattle.loom_engine.specs.Runs.Course.{Course, carried, grown_from, unordered_in}
use Rattle.loom_engine.specs.Runs.Machine.{further_branches, schedule, submit}
use Rattle.loom_engine.specs.Path.Route.{Route, trail, drives, Backtracks, Grows}

-- a run in which no thread can go on ends if all have ended and its path is used up
abbrev pub may_end : Bool → Bool → Result ⊤ FailureKind
may_end false is_used_up = Err Deadlock
may_end true false = Err NotDeterministic
may_end true true = Ok tt

-- what every further operation is answered: after the end Misuse, after a stop the same stop
abbrev pub over_after : {D : Type 0} → Result (Turn D) Stop → Option Stop
over_after (Ok (Reply thread reply)) = None
over_after (Ok (Start thread)) = None
over_after (Ok (Ended value)) = Some (Failure (record { kind = Misuse; location = None }))
over_after (Err stop) = Some stop

-- the run so far, and what every further operation is answered once the run is over
pub record ExecutionState (D : Type 0) : Type 0 where
  pub run : Progress D
  pub over : Option Stop

-- the order that an access leads to is kept, or its counts are, or the access stops the run
abbrev pub Notes : Bool → Result Order FailureKind → Result ⊤ Stop → Dependence → Type 0
Notes is_ordered (Ok order) result new = (result ≡ Ok tt) × Keeps is_ordered order new
Notes is_ordered (Err kind) result new = result ≡ Err (Failure (record { kind = kind; location = None }))

-- The run along this path shows the course: its state, and its order of accesses, if the search is reduced; else it counts them. And
-- the path has passed as many nodes, and explores as it does.
pub record ShowsCourse {D : Type 0} (c : Course D) (run : Progress D) (path : Route) : Type 0 where
  pub world : Shows c.world run.state
  pub order : Keeps path.search.reduce c.order run.dependence
  pub place : c.passed ≡ path.position
  pub exploring : c.exploring ≡ path.exploring

module _ {D : Type 0} where
  -- This is the tree's outcome along the path, memory aside. If it doesn't fail, the run shows where the tree leads.
  abbrev pub Comes : {A : Type 0} → Tree (A × Course D) → Route → Result A Stop → Progress D → Route → Type 0
  Comes tree old (Ok a) run new = (c : Course D) × ShowsCourse c run new × (drives tree old ≡ (Ok (a, c), trail new))
  Comes tree old (Err (Failure failure)) run new = drives tree old ≡ (Err failure.kind, trail new)
  Comes tree old (Err Memory) run new = Unit {0}

  -- what the code did along the path is what the tree does that the rule says of each course that was shown before it
  abbrev pub Along : {A : Type 0} → (Course D → Tree (A × Course D)) → Progress D → Route → Result A Stop → Progress D → Route → Type 0
  Along rule old path result new after = (c : Course D) → ShowsCourse c old path → Comes (rule c) path result new after

  -- What an operation does up to its branch point, as the rule says of each course that was shown: the state after it is shown, and
  -- so is the order, or its counts, with what the operation made.
  abbrev pub StartsAt : Bool → Course D → Tree (Entry D × World D) → Result (Entry D) Stop → Progress D → Type 0
  StartsAt is_ordered c tree (Ok entry) new =
      (w : World D) × (tree ≡ Gives (entry, w)) × Shows w new.state × Keeps is_ordered (grown_from c.world (record c { world = w })).order new.dependence
  StartsAt is_ordered c tree (Err (Failure failure)) new = tree ≡ Fails failure.kind
  StartsAt is_ordered c tree (Err Memory) new = Unit {0}

  abbrev pub Starts : Bool → Request D ⊤ → Progress D → Result (Entry D) Stop → Progress D → Type 0
  Starts is_ordered op old result new = (c : Course D) → Shows c.world old.state → Keeps is_ordered c.order old.dependence → StartsAt is_ordered c (begins op c.world) result new

  -- what the chosen thread has pending takes effect, once its node was passed
  abbrev pub takes_turn : ℕ → Course D → Tree (Passed D × Course D)
  takes_turn t c = carried c (resumes (is_on c.exploring) t c.world)

  -- a reader gets a copy of a lock's data
  abbrev pub IsCopied : {A : Type 0} → (Turn D → A) → Result (A × Course D) FailureKind → Type 0
  IsCopied by_turn comes = (reader n : ℕ) × (copy : D) × (after : Course D) × (comes ≡ Ok (by_turn (Reply reader (ReadLocked n copy)), after))

  -- the path has made the marks of a schedule, at which threads aren't ordered as in each course that was shown
  abbrev pub IsMarked : Progress D → Route → Route → Type 0
  IsMarked run path after = (c : Course D) → ShowsCourse c run path → Backtracks path (unordered_in c) after

  -- memory is needed on the way through the tree along the path: a node is made, or it gives a copy
  abbrev pub NeedsMemory : {A : Type 0} → (Turn D → A) → Tree (A × Course D) → Route → Type 0
  NeedsMemory by_turn tree path = Grows path (drives tree path).1 ⊎ IsCopied by_turn (drives tree path).0

  -- it is, from each course that is shown
  abbrev pub AllNeedMemory : {A : Type 0} → (Turn D → A) → (Course D → Tree (A × Course D)) → Progress D → Route → Type 0
  AllNeedMemory by_turn rule old path = (c : Course D) → ShowsCourse c old path → NeedsMemory by_turn (rule c) path

  abbrev pub itself : Turn D → Turn D
  itself turn = turn

  -- memory may be refused at an operation: it makes an object or a thread or copies data as it begins, or it is needed on the way
  abbrev pub MayBeRefused : Request D ⊤ → Progress D → Route → Type 0
  MayBeRefused op old path = (needs_memory op ≡ true) ⊎ AllNeedMemory itself (submit op) old path

  -- An event of the machine along the path, as the rule says of each course that the execution shows; memory is refused only where
  -- that may be. Once the run is over it is the same answer again, and nothing changes.
  abbrev pub HappensAt : Option Stop → (Course D → Tree (Turn D × Course D)) → (Progress D → Route → Type 0) → ExecutionState D → Route → Result (Turn D) Stop → ExecutionState D → Route → Type 0
  HappensAt None rule refused old path answer new after =
      Along rule old.run path answer new.run after × (new.over ≡ over_after answer) × (answer ≡ Err Memory → refused old.run path)
  HappensAt (Some stop) rule refused old path answer new after = (answer ≡ Err stop) × (new ≡ old) × (after ≡ path)

  abbrev pub SubmitsAt : Option Stop → ExecutionState D → Request D ⊤ → Route → Result (Turn D) Stop → ExecutionState D → Route → Type 0
  SubmitsAt over old op path answer new after = HappensAt over (submit op) (MayBeRefused op) old path answer new after

  -- an operation that the active thread hands over, up to the next turn
  abbrev pub Submits : ExecutionState D → Request D ⊤ → Route → Result (Turn D) Stop → ExecutionState D → Route → Type 0
  Submits old op path answer new after = SubmitsAt old.over old op path answer new after

  -- a branch point of the active thread, up to the next turn
  abbrev pub Schedules : ExecutionState D → Route → Result (Turn D) Stop → ExecutionState D → Route → Type 0
  Schedules old path answer new after =
      HappensAt old.over (schedule further_branches) (AllNeedMemory itself (schedule further_branches)) old path answer new after
