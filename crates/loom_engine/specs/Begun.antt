-- An operation up to its branch point, or up to the next turn where it has none: what of an event comes before its schedule.
use Rattle.std.specs.Prelude.{ℕ, ◌≡◌, Option, Some, None, Result, Ok, Err, ⊤}
use Rattle.loom_objects.specs.declared.choice.Choice.{Choice}
use Rattle.loom_objects.specs.declared.failure.Stop.{Stop}
use Rattle.loom_objects.specs.declared.operation.Request.{Request}
use Rattle.loom_objects.specs.declared.operation.Turn.{Turn}
use Rattle.loom_objects.specs.declared.operation.Turn.TheVariants as turn
use Rattle.loom_objects.specs.declared.rt.run.Entry.{Entry}
use Rattle.loom_objects.specs.declared.rt.run.Entry.TheVariants.{Answered, AtBranch, Explores, Spurious as AtSpurious}
use Rattle.loom_objects.specs.Exploring.{is_on}
use Rattle.loom_objects.specs.Rules.Steps.{begins, enters_wait}
use Rattle.loom_objects.specs.Tree.Asked.{whether_spurious}
use Rattle.loom_objects.specs.Tree.Tree.{Tree, Gives, Asks, ◌>>=◌}
use Rattle.loom_engine.specs.declared.rt.execution.Begun.{Begun}
use Rattle.loom_engine.specs.declared.rt.execution.Begun.TheVariants as begun
use Rattle.loom_engine.specs.Execution.{ExecutionState, Along}
use Rattle.loom_engine.specs.Path.Route.{Route}
use Rattle.loom_engine.specs.Runs.Course.{Course, carried, grown_from, one_passed}
use Rattle.loom_engine.specs.Runs.Machine.{flag_of, further_branches, schedule, submit, switches}

module _ {D : Type 0} where
  -- once it is known whether the active thread wakes from notifier n without a notification
  abbrev pub woken_at : ℕ → Course D → Choice → Tree (Begun D × Course D)
  woken_at n c choice = do
    is_spurious ← flag_of choice
    after ← carried (one_passed c) (enters_wait is_spurious n c.world)
    Gives (begun.AtBranch, after.1)

  -- whether it does is chosen first
  abbrev pub wakes_at : ℕ → Course D → Tree (Begun D × Course D)
  wakes_at n c = Asks (whether_spurious (is_on c.exploring)) (woken_at n c)

  abbrev pub answered : Turn D × Course D → Tree (Begun D × Course D)
  answered (turn, c) = Gives (begun.Turn turn, c)

  abbrev pub comes_to : Entry D × Course D → Tree (Begun D × Course D)
  comes_to (Answered reply, c) = Gives (begun.Turn (turn.Reply c.world.active reply), c)
  comes_to (AtBranch, c) = Gives (begun.AtBranch, c)
  comes_to (AtSpurious n, c) = wakes_at n c
  comes_to (Explores todo, c) = switches todo c >>= answered

  -- the active thread hands over an operation, which goes on up to its branch point, or up to the next turn
  abbrev pub begins_at : Request D ⊤ → Course D → Tree (Begun D × Course D)
  begins_at op c = do
    (entry, after) ← carried c (begins op c.world)
    comes_to (entry, grown_from c.world after)

  -- and on up to the next turn
  abbrev pub goes_further : Begun D × Course D → Tree (Turn D × Course D)
  goes_further (begun.Turn turn, c) = Gives (turn, c)
  goes_further (begun.AtBranch, c) = schedule further_branches c

  -- what every further operation is answered then
  abbrev pub over_begun : Result (Begun D) Stop → Option Stop
  over_begun (Ok begun) = None
  over_begun (Err stop) = Some stop

  abbrev pub BeginsAt : Option Stop → ExecutionState D → Request D ⊤ → Route → Result (Begun D) Stop → ExecutionState D → Route → Type 0
  BeginsAt None old op path answer new after = Along (begins_at op) old.run path answer new.run after × (new.over ≡ over_begun answer)
  BeginsAt (Some stop) old op path answer new after = (answer ≡ Err stop) × (new ≡ old) × (after ≡ path)

  -- As the rule says of each course that the execution shows. Once the run is over it is the same answer again, and nothing changes.
  abbrev pub Begins : ExecutionState D → Request D ⊤ → Route → Result (Begun D) Stop → ExecutionState D → Route → Type 0
  Begins old op path answer new after = BeginsAt old.over old op path answer new after

-- What is begun goes on to the whole event's outcome.
abbrev pub BeginningLaw : Type 0 → Type 0
BeginningLaw D = (op : Request D ⊤) (c : Course D) → submit op c ≡ begins_at op c >>= goes_further
