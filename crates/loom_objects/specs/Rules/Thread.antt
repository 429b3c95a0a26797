-- What threads do.
use Rattle.std.specs.Prelude.{ℕ, ◌==◌, ◌++◌, ◌∷◌, [], Bool, true, false, not, cond, length, is_none, nat_lt, slice_get, Option, Some, None, ⊤, Result, Ok}
use Rattle.loom_views.specs.declared.rt.failure.FailureKind.{FailureKind}
use Rattle.loom_views.specs.declared.rt.failure.FailureKind.TheVariants.{TooManyThreads, Misuse}
use Rattle.loom_views.specs.Views.{points_after_spawn}
use Rattle.loom_objects.specs.declared.operation.ThreadOp.{ThreadOp}
use Rattle.loom_objects.specs.declared.operation.ThreadOp.TheVariants.{Spawn, Join, Current, Park, Unpark, Yield, Finish, Exit, End}
use Rattle.loom_objects.specs.declared.operation.Reply.{Reply}
use Rattle.loom_objects.specs.declared.operation.Reply.TheVariants as reply
use Rattle.loom_objects.specs.declared.rt.object.Object.TheVariants as object
use Rattle.loom_objects.specs.declared.rt.run.Entry.{Entry}
use Rattle.loom_objects.specs.declared.rt.run.Entry.TheVariants.{Answered, AtBranch}
use Rattle.loom_objects.specs.declared.rt.thread.Thread.{Thread}
use Rattle.loom_objects.specs.declared.rt.thread.Task.TheVariants as task
use Rattle.loom_objects.specs.declared.rt.thread.State.TheVariants as state
use Rattle.loom_objects.specs.declared.rt.thread.Phase.{Phase}
use Rattle.loom_objects.specs.declared.rt.thread.Phase.TheVariants.{Working, Finished, Exited, Over}
use Rattle.loom_objects.specs.Rules.Rule.{◌>>=◌, check}
use Rattle.loom_objects.specs.Rules.Locals.{is_working}
use Rattle.loom_objects.specs.World.{World, child_thread}
use Rattle.loom_objects.specs.declared.operation.Name.{Name}
use Rattle.loom_objects.specs.Rules.Moves.{a_notify, active_thread, at_phase, changes_active, having, in_state, rests, takes_result, unparks, with_token, with_points, acquires, is_number, joins_view, with_new, pends, yields}
use Rattle.loom_objects.specs.Rules.Notify.{notify, with_notify}
use Rattle.loom_objects.specs.declared.rt.notify.Spurious.TheVariants.{Never}

abbrev pub is_finished : Phase → Bool
is_finished Finished = true
is_finished Working = false
is_finished Exited = false
is_finished Over = false

abbrev pub is_exited : Phase → Bool
is_exited Exited = true
is_exited Working = false
is_exited Finished = false
is_exited Over = false

-- the thread, unless it is the active one
abbrev pub if_other : ℕ → ℕ → Option ℕ
if_other active t = cond (active == t) None (Some t)

module _ {D : Type 0} where
  -- a thread more, with its parent's view and a notifier of its own; threads that have ended count
  abbrev pub spawn : Option Name → World D → Result (Entry D × World D) FailureKind
  spawn name w = do
    _ ← check (nat_lt (length w.threads) w.max_threads) TooManyThreads
    points ← points_after_spawn w.points w.active
    let child = child_thread name (length w.objects)
    let notifier = object.Notify (record { notified = false; waiter = None; spurious = Never; wakers = None })
    Ok (Answered (reply.Spawned (length w.threads) name (length w.objects)), with_new notifier (with_points points (record w { threads = w.threads ++ child ∷ [] })))

  -- the notifier is the thread's own
  abbrev pub has_own : Option (Thread D) → ℕ → Bool
  has_own None n = false
  has_own (Some thread) n = is_number thread.notifier n

  -- A thread is joined once, by the notifier that is its own. The active thread reaches a branch point, and is blocked there
  -- until it is notified
  abbrev pub join_begins : ℕ → ℕ → World D → Result (Entry D × World D) FailureKind
  join_begins t n w = do
    _ ← check (has_own (slice_get w.threads t) n) Misuse
    notifier ← a_notify n w
    _ ← check (is_none notifier.waiter) Misuse
    Ok (AtBranch, pends (task.Join t n) (not notifier.notified) (with_notify n (record notifier { waiter = Some w.active }) w))

  -- the active thread acquires, and has the joined thread's result
  abbrev pub join : ℕ → ℕ → World D → Result (Reply D × World D) FailureKind
  join t n w = do
    notifier ← a_notify n w
    _ ← check notifier.notified Misuse
    (value, taken) ← takes_result t w
    Ok (reply.Data value, acquires n (with_notify n (record notifier { notified = false }) taken))

  -- main has its result at once, and gives the values back that were made once; another thread reaches a branch point, at which
  -- it is to notify
  abbrev pub finish_as : Option ℕ → D → World D → Result (Entry D × World D) FailureKind
  finish_as None value w = Ok (Answered (reply.Lazies w.lazies), record (changes_active (having value) w) { lazies = [] })
  finish_as (Some n) value w = Ok (AtBranch, pends (task.Finish n value) false w)

  abbrev pub finish : D → World D → Result (Entry D × World D) FailureKind
  finish value w = do
    thread ← active_thread w
    _ ← check (is_working thread.phase) Misuse
    finish_as thread.notifier value (changes_active (at_phase Finished) w)

  -- the active thread notifies who joins it, and has its result
  abbrev pub child_finish : ℕ → D → World D → Result (Reply D × World D) FailureKind
  child_finish n value w = do
    after ← notify n w
    Ok (reply.Done, changes_active (having value) after.1)

  abbrev pub without_locals : Thread D → Thread D
  without_locals thread = record thread { locals = [] }

  -- the thread gives its own values back
  abbrev pub exit : World D → Result (Entry D × World D) FailureKind
  exit w = do
    thread ← active_thread w
    _ ← check (is_finished thread.phase) Misuse
    Ok (Answered (reply.Locals thread.locals), changes_active without_locals (changes_active (at_phase Exited) w))

  -- the thread has ended before its branch point
  abbrev pub end : World D → Result (Entry D × World D) FailureKind
  end w = do
    thread ← active_thread w
    _ ← check (is_exited thread.phase) Misuse
    Ok (AtBranch, changes_active (in_state state.Ended) (changes_active (at_phase Over) w))

  -- ---- between a thread's beginning and its end

  -- which thread it is, and its name
  abbrev pub current : World D → Result (Entry D × World D) FailureKind
  current w = do
    thread ← active_thread w
    Ok (Answered (reply.Thread w.active thread.name), w)

  -- a token is taken; without one the thread is parked before its branch point
  abbrev pub parks_unless : Bool → World D → Result (Entry D × World D) FailureKind
  parks_unless true w = Ok (Answered reply.Done, changes_active (with_token false) w)
  parks_unless false w = Ok (AtBranch, rests state.Parked task.Continue w)

  abbrev pub park : World D → Result (Entry D × World D) FailureKind
  park w = do
    thread ← active_thread w
    parks_unless thread.has_token w

  -- another thread takes in the active thread's view
  abbrev pub unpark : ℕ → World D → Result (Entry D × World D) FailureKind
  unpark t w = do
    given ← unparks t w
    Ok (Answered reply.Done, joins_view (if_other w.active t) given.1)

  -- the thread yields before its branch point
  abbrev pub yield_now : World D → Result (Entry D × World D) FailureKind
  yield_now w = do
    yielded ← yields task.Continue w
    Ok (AtBranch, yielded.1)

  abbrev pub thread_begins : ThreadOp D ⊤ → World D → Result (Entry D × World D) FailureKind
  thread_begins (Spawn body name) w = spawn name w
  thread_begins (Join t n) w = join_begins t n w
  thread_begins Current w = current w
  thread_begins Park w = park w
  thread_begins (Unpark t) w = unpark t w
  thread_begins Yield w = yield_now w
  thread_begins (Finish value) w = finish value w
  thread_begins Exit w = exit w
  thread_begins End w = end w

  -- memory may be refused where a thread is made
  abbrev pub needs_memory : ThreadOp D ⊤ → Bool
  needs_memory (Spawn body name) = true
  needs_memory _ = false
