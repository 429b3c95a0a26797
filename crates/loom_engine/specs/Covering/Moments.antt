-- Where the runs of a body stand at schedules, and what comes between one schedule and the next.
use Rattle.std.specs.Prelude.{Bool, ℕ, zero, suc, List, [], ◌∷◌, ◌++◌, Option, Some, None, slice_get, slice_set}
use Rattle.loom_views.specs.declared.rt.failure.FailureKind.TheVariants.{Misuse, TooManySteps}
use Rattle.loom_objects.specs.declared.choice.Choice.{Choice}
use Rattle.loom_objects.specs.Operation.Labelled.{Op}
use Rattle.loom_objects.specs.Operation.Plain.{plain, started}
use Rattle.loom_objects.specs.declared.operation.Reply.{Reply}
use Rattle.loom_objects.specs.declared.operation.Reply.TheVariants as reply
use Rattle.loom_objects.specs.declared.rt.run.Entry.{Entry}
use Rattle.loom_objects.specs.declared.rt.run.Entry.TheVariants.{Answered, AtBranch, Explores, Spurious as AtSpurious}
use Rattle.loom_objects.specs.declared.rt.run.Passed.{Passed}
use Rattle.loom_objects.specs.declared.rt.run.Passed.TheVariants as passed
use Rattle.loom_objects.specs.Exploring.{is_on, switched}
use Rattle.loom_objects.specs.Schedule.Offers.{offers}
use Rattle.loom_objects.specs.Rules.Steps.{begins, enters_wait}
use Rattle.loom_objects.specs.Tree.Asked.{which_thread, whether_spurious}
use Rattle.loom_objects.specs.Tree.Question.{Question}
use Rattle.loom_objects.specs.Tree.Tree.{Tree, Gives, Fails, Closes, Asks, ◌>>=◌, came, found}
use Rattle.loom_engine.specs.Runs.Body.{Meaning, at_turn, with_child}
use Rattle.loom_engine.specs.Runs.Course.{Course, carried, grown_from, one_passed, opening, unordered_in}
use Rattle.loom_engine.specs.Runs.Machine.{chooses, flag_of, further_branches}

-- A run at a schedule: what its bodies keep, its course, how many branch points more the operation at hand may reach, and how
-- many operations may still be handed over.
pub record Moment (D S : Type 0) : Type 0 where
  pub bodies : List S
  pub course : Course D
  pub more : ℕ
  pub left : ℕ

-- what comes next in a run: its end, with main's result, or a schedule
pub data Next (D S : Type 0) : Type 0 where
  RunEnds : D → Next D S
  Stands : Moment D S → Next D S

module _ {D S : Type 0} where
  -- the active thread's operation has reached its branch point
  abbrev pub at_branch : ℕ → List S → Course D → Next D S
  at_branch left bodies c = Stands (record { bodies = bodies; course = c; more = further_branches; left = left })

  -- once it is known whether the active thread wakes from notifier n without a notification
  abbrev pub woken : ℕ → List S → ℕ → Course D → Choice → Tree (Next D S)
  woken left bodies n c choice = do
    is_spurious ← flag_of choice
    after ← carried (one_passed c) (enters_wait is_spurious n c.world)
    Gives (at_branch left bodies after.1)

  -- an operation has begun so; where it is answered at once, the body goes on
  abbrev pub entered : (Course D → ℕ → Reply D → Tree (Next D S)) → ℕ → List S → Entry D × Course D → Tree (Next D S)
  entered rest left bodies (Answered answer, c) = rest c c.world.active answer
  entered rest left bodies (AtBranch, c) = Gives (at_branch left bodies c)
  entered rest left bodies (AtSpurious n, c) = Asks (whether_spurious (is_on c.exploring)) (woken left bodies n c)
  entered rest left bodies (Explores todo, c) = do
    exploring ← came (switched todo c.exploring)
    rest (record c { exploring = exploring }) c.world.active reply.Done

  -- the body of a thread has handed over its operation, and is in its next state
  abbrev pub handing : (List S → Course D → ℕ → Reply D → Tree (Next D S)) → ℕ → List S → Course D → ℕ → S × Op D S → Tree (Next D S)
  handing rest left bodies c thread (after, op) = do
    (entry, v) ← carried c (begins (plain op) c.world)
    entered (rest (with_child (slice_set bodies thread after) (started op))) left (with_child (slice_set bodies thread after) (started op)) (entry, grown_from c.world v)

module _ {D S : Type 0} (next : Meaning D S) where
  -- The thread gets the reply, and its body hands over its next operation, and so on up to the next schedule.
  unfoldable pub to_schedule : ℕ → List S → Course D → ℕ → Reply D → Tree (Next D S)
  to_schedule zero bodies c thread answer = Fails TooManySteps
  to_schedule (suc left) bodies c thread answer = do
    body ← found (slice_get bodies thread) Misuse
    handing (to_schedule left) left bodies c thread (next body answer)

  -- at another branch point of the same operation
  abbrev pub at_next : Moment D S → Course D → ℕ → Tree (Next D S)
  at_next m c zero = Fails Misuse
  at_next m c (suc more) = Gives (Stands (record m { course = c; more = more }))

  -- the chosen thread has gone on so far
  abbrev pub gone_on : Moment D S → Passed D × Course D → Tree (Next D S)
  gone_on m (passed.Turn turn, c) = at_turn (to_schedule m.left m.bodies c) (λ value. Gives (RunEnds value)) turn
  gone_on m (passed.AtBranch, c) = at_next m c m.more

  -- from a schedule, by what is chosen there, to the next
  abbrev pub from_schedule : Moment D S → Choice → Tree (Next D S)
  from_schedule m choice = chooses m.course choice >>= gone_on m

  -- what is asked at a schedule
  abbrev pub question_at : Moment D S → Question
  question_at m = which_thread (is_on m.course.exploring) (offers m.course.world) (unordered_in m.course)

  -- the schedule, and what comes of each choice
  abbrev pub at_schedule : Moment D S → Tree (Next D S)
  at_schedule m = Asks (question_at m) (from_schedule m)

-- Where a run stands: the last schedule that it came to, if there was one, the choices that it has made since it came there, and
-- what is ahead of it, up to the next schedule.
pub record Stand (D S : Type 0) : Type 0 where
  pub last : Option (Moment D S)
  pub since : List Choice
  pub ahead : Tree (Next D S)

module _ {D S : Type 0} (next : Meaning D S) where
  -- what is ahead may be a schedule, which then is the last one
  abbrev pub settled : Option (Moment D S) → List Choice → Tree (Next D S) → Stand D S
  settled last since (Gives (Stands m)) = record { last = Some m; since = []; ahead = at_schedule next m }
  settled last since (Gives (RunEnds value)) = record { last = last; since = since; ahead = Gives (RunEnds value) }
  settled last since (Fails kind) = record { last = last; since = since; ahead = Fails kind }
  settled last since (Closes rest) = record { last = last; since = since; ahead = Closes rest }
  settled last since (Asks question branches) = record { last = last; since = since; ahead = Asks question branches }

  abbrev pub by_choice : Choice → Stand D S → Tree (Next D S) → Stand D S
  by_choice o s (Asks question branches) = settled s.last (s.since ++ o ∷ []) (branches o)
  by_choice o s (Gives value) = s
  by_choice o s (Fails kind) = s
  by_choice o s (Closes rest) = s

  -- after these choices
  abbrev pub stand_after : Stand D S → List Choice → Stand D S
  stand_after s [] = s
  stand_after s (o ∷ c) = stand_after (by_choice o s s.ahead) c

  -- up to the first schedule
  abbrev pub first_part : Bool → ℕ → ℕ → S → Tree (Next D S)
  first_part explores max_threads max_steps body = to_schedule next (suc max_steps) (body ∷ []) (opening explores max_threads max_steps) 0 reply.Start

  -- where a run begins
  abbrev pub first_stand : Bool → ℕ → ℕ → S → Stand D S
  first_stand explores max_threads max_steps body = settled None [] (first_part explores max_threads max_steps body)
