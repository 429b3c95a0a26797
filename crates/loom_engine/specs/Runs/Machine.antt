-- The machine: one operation that is handed over is one event, up to the next turn.
use Rattle.std.specs.Prelude.{ℕ, zero, suc, Bool, Some, None, ⊤}
use Rattle.loom_views.specs.declared.rt.failure.FailureKind.TheVariants.{Deadlock, Misuse, NotDeterministic}
use Rattle.loom_objects.specs.declared.choice.Choice.{Choice}
use Rattle.loom_objects.specs.declared.choice.Choice.TheVariants.{Thread, Load, Spurious}
use Rattle.loom_objects.specs.declared.operation.ExploreOp.{ExploreOp}
use Rattle.loom_objects.specs.declared.operation.Request.{Request}
use Rattle.loom_objects.specs.declared.operation.Reply.TheVariants as reply
use Rattle.loom_objects.specs.declared.operation.Turn.{Turn}
use Rattle.loom_objects.specs.declared.operation.Turn.TheVariants as turn
use Rattle.loom_objects.specs.declared.rt.run.Entry.{Entry}
use Rattle.loom_objects.specs.declared.rt.run.Entry.TheVariants.{Answered, AtBranch, Explores, Spurious as AtSpurious}
use Rattle.loom_objects.specs.declared.rt.run.Passed.{Passed}
use Rattle.loom_objects.specs.declared.rt.run.Passed.TheVariants as passed
use Rattle.loom_objects.specs.Tree.Tree.{Tree, Gives, Fails, Closes, Asks, ◌>>=◌, came, check}
use Rattle.loom_objects.specs.Rules.Ending.{all_ended}
use Rattle.loom_objects.specs.Exploring.{is_on, switched}
use Rattle.loom_objects.specs.Schedule.Offers.{offers}
use Rattle.loom_objects.specs.Rules.Steps.{begins, ends, enters_wait, resumes}
use Rattle.loom_engine.specs.Runs.Course.{Course, accesses, carried, grown_from, one_passed, unordered_in}
use Rattle.loom_objects.specs.Tree.Asked.{which_thread, whether_spurious}

-- An operation has as many further branch points as there are stages left of it and of those that it lets go on: a receiver
-- that is dropped has one for each message. Each is a node, and no path has more than these.
abbrev pub further_branches : ℕ
further_branches = 1000000

-- whether a thread wakes without a notification, as it was chosen
abbrev pub flag_of : Choice → Tree Bool
flag_of (Thread t) = Fails NotDeterministic
flag_of (Load slot) = Fails NotDeterministic
flag_of (Spurious answer) = Gives answer

module _ {D : Type 0} where
  -- where no thread can go on the run is over if all have ended; then nothing of a path may be left
  abbrev pub closes : Course D → Tree (Turn D × Course D)
  closes c = do
    _ ← check (all_ended c.world) Deadlock
    Closes (carried c (ends c.world))

  abbrev pub turned : Turn D × Course D → Tree (Passed D × Course D)
  turned (turn, c) = Gives (passed.Turn turn, c)

  -- the thread's access is noted, its node is passed, and what it has pending takes effect
  abbrev pub goes_by : ℕ → Course D → Tree (Passed D × Course D)
  goes_by t c = carried (one_passed c) (resumes (is_on c.exploring) t c.world)

  abbrev pub chooses : Course D → Choice → Tree (Passed D × Course D)
  chooses c (Thread (Some t)) = came (accesses t c) >>= goes_by t
  chooses c (Thread None) = closes (one_passed c) >>= turned
  chooses c (Load slot) = Fails NotDeterministic
  chooses c (Spurious answer) = Fails NotDeterministic

  -- at a branch point a schedule chooses the thread that goes on
  abbrev pub passes : Course D → Tree (Passed D × Course D)
  passes c = Asks (which_thread (is_on c.exploring) (offers c.world) (unordered_in c)) (chooses c)

  -- up to a turn; at another branch point it goes on again
  abbrev pub further : (Course D → Tree (Turn D × Course D)) → Passed D × Course D → Tree (Turn D × Course D)
  further again (passed.Turn turn, c) = Gives (turn, c)
  further again (passed.AtBranch, c) = again c

  -- a schedule, and those after it, up to a turn; so many branch points more may come
  unfoldable pub schedule : ℕ → Course D → Tree (Turn D × Course D)
  schedule zero c = passes c >>= further (λ v. Fails Misuse)
  schedule (suc more) c = passes c >>= further (schedule more)

  -- once it is known whether the active thread wakes from notifier n without a notification
  abbrev pub waits : ℕ → Course D → Choice → Tree (Turn D × Course D)
  waits n c choice = do
    is_spurious ← flag_of choice
    after ← carried (one_passed c) (enters_wait is_spurious n c.world)
    schedule further_branches after.1

  -- whether it does is chosen first
  abbrev pub is_asked : ℕ → Course D → Tree (Turn D × Course D)
  is_asked n c = Asks (whether_spurious (is_on c.exploring)) (waits n c)

  -- the search explores from now on, or doesn't
  abbrev pub switches : ExploreOp → Course D → Tree (Turn D × Course D)
  switches todo c = do
    exploring ← came (switched todo c.exploring)
    Gives (turn.Reply c.world.active reply.Done, record c { exploring = exploring })

  abbrev pub goes_on : Entry D × Course D → Tree (Turn D × Course D)
  goes_on (Answered reply, c) = Gives (turn.Reply c.world.active reply, c)
  goes_on (AtBranch, c) = schedule further_branches c
  goes_on (AtSpurious n, c) = is_asked n c
  goes_on (Explores todo, c) = switches todo c

  -- the active thread hands over an operation; what it makes is there from then on
  abbrev pub submit : Request D ⊤ → Course D → Tree (Turn D × Course D)
  submit op c = do
    (entry, after) ← carried c (begins op c.world)
    goes_on (entry, grown_from c.world after)
